-- Lexemes that are fed where a parser stands are fed after what it took. Assumes nothing.
use Rattle.std.proofs.Common.{◌≡◌, ℕ, ◌-◌, List, [], ◌∷◌, ◌++◌, length, None, Ok, Option, Result, sym, subst, arith, length-append}
use Rattle.std.proofs.lemmas.List.{append_assoc}
use Rattle.parser.specs.Sets.{Lists, Same}
use Rattle.sheet.specs.declared.fault.Fault.{Fault}
use Rattle.sheet.specs.declared.fault.Reason.{Reason}
use Rattle.sheet.specs.declared.lexeme.Lexeme.{Lexeme}
use Rattle.sheet.specs.declared.lexeme.Place.{Place}
use Rattle.sheet.specs.declared.lexeme.Token.{Token}
use Rattle.layout.specs.Layout.{kinds}
use Rattle.layout.specs.Limits.{Laid, Runs}
use Rattle.layout.specs.Marks.{after}
use Rattle.layout.specs.Service.{Does, FeedFails, FinishFails, State, feed_fails, feeds, finish_fails, finishes, give_up_fails, gives_up}
use Rattle.layout.specs.declared.call.Answer.{Answer}
use Rattle.layout.specs.declared.call.Answer.TheVariants.{Count as count}
use Rattle.layout.specs.declared.call.Call.TheVariants.{Feed as feed, Finish as finish, GiveUp as give_up}
use Rattle.layout.specs.declared.rule.Coming.{Coming}
use Rattle.layout.specs.declared.rule.Mark.{Mark}
use Rattle.layout.proofs.Shifts.{runs_on}
use Rattle.whole.specs.Whole.{Ends, Feeding, fault_of, fed, finished, given_up, none, unfinished, unread}

-- a state with more written before
abbrev pub behind : List ℕ → State → State
behind u s = record { sheet = s.sheet; next = s.next; contexts = s.contexts; before = s.before; written = u ++ s.written }

module _ (A R : Lists) (u : List ℕ) (same : Same A (λ w. R (u ++ w))) (left reach : ℕ) (all : left ≡ reach - length u) where
  runs_behind : (s : State) {ks : List ℕ} {m : Option Mark} {c : Coming} {o : Result Laid Reason} → Runs A s.written (left - length s.written) ks m c o → Runs R (u ++ s.written) (reach - length (u ++ s.written)) ks m c o
  runs_behind s {ks} {m} {c} {o} r = subst (λ k. Runs R (u ++ s.written) k ks m c o) (omega (arith, all, length-append u s.written)) (runs_on A R u same r)

  fails_behind : (s : State) {t : ℕ} {l : Lexeme} {free : ℕ} {why : Reason} → FeedFails A left s t l free why → FeedFails R reach (behind u s) t l free why
  fails_behind s (FeedFails.wrong_ticket n) = FeedFails.wrong_ticket n
  fails_behind s (FeedFails.bad_lexeme e b) = FeedFails.bad_lexeme e b
  fails_behind s (FeedFails.stopped e b r) = FeedFails.stopped e b (runs_behind s r)
  fails_behind s (FeedFails.no_room e b r f) = FeedFails.no_room e b (runs_behind s r) f

  feed_behind : {s : State} {t : ℕ} {l : Lexeme} {free : ℕ} {a : Answer} {us : List Token} {s' : State} → Does A left s (feed t l free) a us s' → Does R reach (behind u s) (feed t l free) a us (behind u s')
  feed_behind (feeds {s = s} {t = t} {l = l} {free = free} {x = x} e b r f) =
      subst (λ (w : List ℕ). Does R reach (behind u s) (feed t l free) (count (length x.tokens)) x.tokens (record { sheet = s.sheet; next = s.next; contexts = x.contexts; before = after l.kind; written = w })) (append_assoc u s.written (kinds x.tokens))
      (feeds e b (runs_behind s r) f)
  feed_behind (feed_fails {s = s} w) = feed_fails (fails_behind s w)

  pub feeding_behind : {t : ℕ} {s s' : State} {xs : List (Result Lexeme Fault)} {ts : List Token} {fs : List Fault} → Feeding A left t s xs ts fs s' → Feeding R reach t (behind u s) xs ts fs (behind u s')
  feeding_behind none = none
  feeding_behind (unread x) = unread (feeding_behind x)
  feeding_behind (fed d x) = fed (feed_behind d) (feeding_behind x)

  finish_fails_behind : (s : State) {t : ℕ} {p : Place} {free : ℕ} {why : Reason} → FinishFails A left s t p free why → FinishFails R reach (behind u s) t p free why
  finish_fails_behind s (FinishFails.wrong_ticket n) = FinishFails.wrong_ticket n
  finish_fails_behind s (FinishFails.stopped e r) = FinishFails.stopped e (runs_behind s r)
  finish_fails_behind s (FinishFails.not_complete {x = x} e r n) = FinishFails.not_complete e (runs_behind s r) (λ g. n ((same _).1 (subst R (append_assoc u s.written (kinds x.tokens)) g)))
  finish_fails_behind s (FinishFails.no_room {x = x} e r g f) = FinishFails.no_room e (runs_behind s r) (subst R (sym (append_assoc u s.written (kinds x.tokens))) ((same _).0 g)) f

  finish_behind : {s : State} {t : ℕ} {p : Place} {free : ℕ} {a : Answer} {us : List Token} {s' : State} → Does A left s (finish t p free) a us s' → Does R reach (behind u s) (finish t p free) a us (behind u s')
  finish_behind (finishes {s = s} {t = t} {p = p} {free = free} {x = x} e r g f) =
      subst (λ (w : List ℕ). Does R reach (behind u s) (finish t p free) (count (length x.tokens)) x.tokens (record { sheet = None; next = s.next; contexts = []; before = s.before; written = w })) (append_assoc u s.written (kinds x.tokens))
      (finishes e (runs_behind s r) (subst R (sym (append_assoc u s.written (kinds x.tokens))) ((same _).0 g)) f)
  finish_behind (finish_fails {s = s} w) = finish_fails (finish_fails_behind s w)

  give_up_behind : {s : State} {t : ℕ} {a : Answer} {us : List Token} {s' : State} → Does A left s (give_up t) a us s' → Does R reach (behind u s) (give_up t) a us (behind u s')
  give_up_behind (gives_up e) = gives_up e
  give_up_behind (give_up_fails n) = give_up_fails n

  pub ends_behind : {s s' : State} {t : ℕ} {p : Place} {ts : List Token} {fs : List Fault} {r : Result (List Token) (List Fault)} → Ends A left s t p ts fs r s' → Ends R reach (behind u s) t p ts fs r (behind u s')
  ends_behind (given_up d) = given_up (give_up_behind d)
  ends_behind (unfinished d x) = unfinished (finish_behind d) (give_up_behind x)
  ends_behind (finished d) = finished (finish_behind d)

-- some and then others
pub feeding_on : {G : Lists} {reach t : ℕ} {s s' s'' : State} {xs ys : List (Result Lexeme Fault)} {ts us : List Token} {fs gs : List Fault} → Feeding G reach t s xs ts fs s' → Feeding G reach t s' ys us gs s'' → Feeding G reach t s (xs ++ ys) (ts ++ us) (fs ++ gs) s''
feeding_on none y = y
feeding_on (unread x) y = unread (feeding_on x y)
feeding_on {G} {reach} {t} {s} {s'} {s''} {ys = ys} {us = us} {gs = gs} (fed {l = l} {a = a} {us = vs} {xs = xs} {ts = ts} {fs = fs} d x) y =
    subst (λ (p : List Token). Feeding G reach t s (Ok l ∷ (xs ++ ys)) p ((fault_of a ++ fs) ++ gs) s'') (sym (append_assoc vs ts us))
    (subst (λ (q : List Fault). Feeding G reach t s (Ok l ∷ (xs ++ ys)) (vs ++ (ts ++ us)) q s'') (sym (append_assoc (fault_of a) fs gs)) (fed d (feeding_on x y)))
