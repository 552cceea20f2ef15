-- The same calls over two languages with the same lists are answered alike. Assumes nothing.
use Rattle.std.proofs.Common.{◌≡◌, ℕ, ◌≤◌, List, [], ◌∷◌, ◌++◌, map, length, drop, is_some, is_ok, Some, None, Ok, Err, Option, Result, sym, refl, ap, ◌∙◌, subst, arith}
use Rattle.std.proofs.lemmas.Bool.{false≢true, true≢false}
use Rattle.parser.specs.Sets.{Lists, Same}
use Rattle.sheet.specs.declared.fault.Reason.{Reason}
use Rattle.sheet.specs.declared.lexeme.Lexeme.{Lexeme}
use Rattle.sheet.specs.declared.lexeme.Place.{Place}
use Rattle.sheet.specs.declared.lexeme.Token.{Token}
use Rattle.layout.proofs.Whys.{why_of}
use Rattle.layout.specs.Layout.{kinds}
use Rattle.layout.specs.Limits.{Laid, Runs}
use Rattle.layout.specs.Marks.{after}
use Rattle.layout.specs.Service.{Does, Event, FeedFails, Feeds, FinishFails, Finishes, Good, Run, State, begin_open, begin_spent, begins, fault, feed_fails, feeds, finish_fails, finishes, give_up_fails, gives_up, more, none}
use Rattle.layout.specs.declared.call.Answer.{Answer}
use Rattle.layout.specs.declared.call.Answer.TheVariants.{Count as count, Refused as refused}
use Rattle.layout.specs.declared.call.Call.{Call}
use Rattle.layout.proofs.Determined.{runs_alike}

-- what was laid
abbrev laid_of : Result Laid Reason → Laid → Laid
laid_of (Ok x) d = x
laid_of (Err w) d = d

abbrev first_call : Call → List Call → Call
first_call d [] = d
first_call d (c ∷ cs) = c

module _ (G H : Lists) (same : Same G H) (reach : ℕ) where
  -- one outcome
  laid_alike : {u : List ℕ} {left : ℕ} {ks : List ℕ} {m : _} {c : _} {x y : Laid} → Runs G u left ks m c (Ok x) → Runs H u left ks m c (Ok y) → x ≡ y
  laid_alike {x = x} r q = ap (λ o. laid_of o x) (runs_alike G H same r q)

  never_both : {u : List ℕ} {left : ℕ} {ks : List ℕ} {m : _} {c : _} {x : Laid} {w : Reason} → Runs G u left ks m c (Ok x) → Runs H u left ks m c (Err w) → ⊥
  never_both r q = true≢false (ap is_ok (runs_alike G H same r q))

  never_both' : {u : List ℕ} {left : ℕ} {ks : List ℕ} {m : _} {c : _} {x : Laid} {w : Reason} → Runs G u left ks m c (Err w) → Runs H u left ks m c (Ok x) → ⊥
  never_both' r q = false≢true (ap is_ok (runs_alike G H same r q))

  feed_why : {s : State} {t : ℕ} {l : Lexeme} {free : ℕ} {w w' : Reason} → FeedFails G reach s t l free w → FeedFails H reach s t l free w' → w ≡ w'
  feed_why (FeedFails.wrong_ticket n) (FeedFails.wrong_ticket n') = refl
  feed_why (FeedFails.wrong_ticket n) (FeedFails.bad_lexeme e b) = absurd (n e)
  feed_why (FeedFails.wrong_ticket n) (FeedFails.stopped e b r) = absurd (n e)
  feed_why (FeedFails.wrong_ticket n) (FeedFails.no_room e b r f) = absurd (n e)
  feed_why (FeedFails.bad_lexeme e b) (FeedFails.wrong_ticket n) = absurd (n e)
  feed_why (FeedFails.bad_lexeme e b) (FeedFails.bad_lexeme e' b') = refl
  feed_why (FeedFails.bad_lexeme e b) (FeedFails.stopped e' b' r) = absurd (b b')
  feed_why (FeedFails.bad_lexeme e b) (FeedFails.no_room e' b' r f) = absurd (b b')
  feed_why (FeedFails.stopped e b r) (FeedFails.wrong_ticket n) = absurd (n e)
  feed_why (FeedFails.stopped e b r) (FeedFails.bad_lexeme e' b') = absurd (b' b)
  feed_why (FeedFails.stopped {why = w} e b r) (FeedFails.stopped e' b' q) = ap (λ o. why_of o w) (runs_alike G H same r q)
  feed_why (FeedFails.stopped e b r) (FeedFails.no_room e' b' q f) = absurd (never_both' r q)
  feed_why (FeedFails.no_room e b r f) (FeedFails.wrong_ticket n) = absurd (n e)
  feed_why (FeedFails.no_room e b r f) (FeedFails.bad_lexeme e' b') = absurd (b' b)
  feed_why (FeedFails.no_room e b r f) (FeedFails.stopped e' b' q) = absurd (never_both r q)
  feed_why (FeedFails.no_room e b r f) (FeedFails.no_room e' b' q f') = refl

  finish_why : {s : State} {t : ℕ} {p : Place} {free : ℕ} {w w' : Reason} → FinishFails G reach s t p free w → FinishFails H reach s t p free w' → w ≡ w'
  finish_why (FinishFails.wrong_ticket n) (FinishFails.wrong_ticket n') = refl
  finish_why (FinishFails.wrong_ticket n) (FinishFails.stopped e r) = absurd (n e)
  finish_why (FinishFails.wrong_ticket n) (FinishFails.not_complete e r g) = absurd (n e)
  finish_why (FinishFails.wrong_ticket n) (FinishFails.no_room e r g f) = absurd (n e)
  finish_why (FinishFails.stopped e r) (FinishFails.wrong_ticket n) = absurd (n e)
  finish_why (FinishFails.stopped {why = w} e r) (FinishFails.stopped e' q) = ap (λ o. why_of o w) (runs_alike G H same r q)
  finish_why (FinishFails.stopped e r) (FinishFails.not_complete e' q g) = absurd (never_both' r q)
  finish_why (FinishFails.stopped e r) (FinishFails.no_room e' q g f) = absurd (never_both' r q)
  finish_why (FinishFails.not_complete e r g) (FinishFails.wrong_ticket n) = absurd (n e)
  finish_why (FinishFails.not_complete e r g) (FinishFails.stopped e' q) = absurd (never_both r q)
  finish_why (FinishFails.not_complete e r g) (FinishFails.not_complete e' q g') = refl
  finish_why {s} (FinishFails.not_complete e r g) (FinishFails.no_room e' q g' f) = absurd (g ((same _).1 (subst (λ (x : Laid). H (s.written ++ kinds x.tokens)) (sym (laid_alike r q)) g')))
  finish_why (FinishFails.no_room e r g f) (FinishFails.wrong_ticket n) = absurd (n e)
  finish_why (FinishFails.no_room e r g f) (FinishFails.stopped e' q) = absurd (never_both r q)
  finish_why {s} (FinishFails.no_room e r g f) (FinishFails.not_complete e' q g') = absurd (g' ((same _).0 (subst (λ (x : Laid). G (s.written ++ kinds x.tokens)) (laid_alike r q) g)))
  finish_why (FinishFails.no_room e r g f) (FinishFails.no_room e' q g' f') = refl

  -- a lexeme is accepted or not
  feed_both : {s : State} {t : ℕ} {l : Lexeme} {free : ℕ} {w : Reason} {x : Laid} → s.sheet ≡ Some t → Good l → Feeds G reach s l (Ok x) → length x.tokens ≤ free → FeedFails H reach s t l free w → ⊥
  feed_both e b r f (FeedFails.wrong_ticket n) = n e
  feed_both e b r f (FeedFails.bad_lexeme e' b') = b' b
  feed_both e b r f (FeedFails.stopped e' b' q) = never_both r q
  feed_both e b r f (FeedFails.no_room e' b' q f') = let z = ap (λ (x : Laid). length x.tokens) (laid_alike r q) in omega arith

  feed_both' : {s : State} {t : ℕ} {l : Lexeme} {free : ℕ} {w : Reason} {x : Laid} → s.sheet ≡ Some t → Good l → Feeds H reach s l (Ok x) → length x.tokens ≤ free → FeedFails G reach s t l free w → ⊥
  feed_both' e b r f (FeedFails.wrong_ticket n) = n e
  feed_both' e b r f (FeedFails.bad_lexeme e' b') = b' b
  feed_both' e b r f (FeedFails.stopped e' b' q) = never_both' q r
  feed_both' e b r f (FeedFails.no_room e' b' q f') = let z = ap (λ (x : Laid). length x.tokens) (laid_alike q r) in omega arith

  -- a sheet is finished or not
  finish_both : {s : State} {t : ℕ} {p : Place} {free : ℕ} {w : Reason} {x : Laid} → s.sheet ≡ Some t → Finishes G reach s p (Ok x) → G (s.written ++ kinds x.tokens) → length x.tokens ≤ free → FinishFails H reach s t p free w → ⊥
  finish_both e r g f (FinishFails.wrong_ticket n) = n e
  finish_both e r g f (FinishFails.stopped e' q) = never_both r q
  finish_both {s} e r g f (FinishFails.not_complete e' q g') = g' ((same _).0 (subst (λ (x : Laid). G (s.written ++ kinds x.tokens)) (laid_alike r q) g))
  finish_both e r g f (FinishFails.no_room e' q g' f') = let z = ap (λ (x : Laid). length x.tokens) (laid_alike r q) in omega arith

  finish_both' : {s : State} {t : ℕ} {p : Place} {free : ℕ} {w : Reason} {x : Laid} → s.sheet ≡ Some t → Finishes H reach s p (Ok x) → H (s.written ++ kinds x.tokens) → length x.tokens ≤ free → FinishFails G reach s t p free w → ⊥
  finish_both' e r g f (FinishFails.wrong_ticket n) = n e
  finish_both' e r g f (FinishFails.stopped e' q) = never_both' q r
  finish_both' {s} e r g f (FinishFails.not_complete e' q g') = g' ((same _).1 (subst (λ (x : Laid). H (s.written ++ kinds x.tokens)) (sym (laid_alike q r)) g))
  finish_both' e r g f (FinishFails.no_room e' q g' f') = let z = ap (λ (x : Laid). length x.tokens) (laid_alike q r) in omega arith

  -- what a call does
  pub record Alike (a a' : Answer) (ts ts' : List Token) (s s' : State) : Type 0 where
    pub answer : a ≡ a'
    pub tokens : ts ≡ ts'
    pub state : s ≡ s'

  open_or_not : {o : Option ℕ} {n : ℕ} → o ≡ None → o ≡ Some n → ⊥
  open_or_not e f = false≢true (ap is_some (sym e ∙ f))

  pub does_alike : {s s' : State} {c : Call} {a : Answer} {ts : List Token} → Does G reach s c a ts s' → {s'' : State} {a' : Answer} {ts' : List Token} → Does H reach s c a' ts' s'' → Alike a a' ts ts' s' s''
  does_alike (begins e n) (begins e' n') = record { answer = refl; tokens = refl; state = refl }
  does_alike (begins e n) (begin_open e') = absurd (open_or_not e e')
  does_alike (begins e n) (begin_spent e' n') = absurd (omega arith)
  does_alike (begin_open e) (begins e' n') = absurd (open_or_not e' e)
  does_alike (begin_open e) (begin_open e') = record { answer = refl; tokens = refl; state = refl }
  does_alike (begin_open e) (begin_spent e' n') = absurd (open_or_not e' e)
  does_alike (begin_spent e n) (begins e' n') = absurd (omega arith)
  does_alike (begin_spent e n) (begin_open e') = absurd (open_or_not e e')
  does_alike (begin_spent e n) (begin_spent e' n') = record { answer = refl; tokens = refl; state = refl }
  does_alike {s} (feeds {l = l} e b r f) (feeds e' b' q f') =
      let z = laid_alike r q in
      record {
        answer = ap (λ (x : Laid). count (length x.tokens)) z;
        tokens = ap (λ (x : Laid). x.tokens) z;
        state = ap (λ (x : Laid). record { sheet = s.sheet; next = s.next; contexts = x.contexts; before = after l.kind; written = s.written ++ kinds x.tokens }) z;
      }
  does_alike (feeds e b r f) (feed_fails w) = absurd (feed_both e b r f w)
  does_alike (feed_fails w) (feeds e b r f) = absurd (feed_both' e b r f w)
  does_alike {s} (feed_fails {l = l} w) (feed_fails w') = record { answer = ap (λ y. refused (fault s l.line l.column y)) (feed_why w w'); tokens = refl; state = refl }
  does_alike {s} (finishes e r g f) (finishes e' q g' f') =
      let z = laid_alike r q in
      record {
        answer = ap (λ (x : Laid). count (length x.tokens)) z;
        tokens = ap (λ (x : Laid). x.tokens) z;
        state = ap (λ (x : Laid). record { sheet = None; next = s.next; contexts = []; before = s.before; written = s.written ++ kinds x.tokens }) z;
      }
  does_alike (finishes e r g f) (finish_fails w) = absurd (finish_both e r g f w)
  does_alike (finish_fails w) (finishes e r g f) = absurd (finish_both' e r g f w)
  does_alike {s} (finish_fails {p = p} w) (finish_fails w') = record { answer = ap (λ y. refused (fault s p.line p.column y)) (finish_why w w'); tokens = refl; state = refl }
  does_alike (gives_up e) (gives_up e') = record { answer = refl; tokens = refl; state = refl }
  does_alike (gives_up e) (give_up_fails n) = absurd (n e)
  does_alike (give_up_fails n) (gives_up e) = absurd (n e)
  does_alike (give_up_fails n) (give_up_fails n') = record { answer = refl; tokens = refl; state = refl }

  -- and so any list of calls
  pub runs_of_calls_alike : {s t : State} (t' : State) (es fs : List Event) → Run G reach s es t → Run H reach s fs t' → map (λ (e : Event). e.call) es ≡ map (λ (e : Event). e.call) fs → es ≡ fs
  runs_of_calls_alike t' [] [] none none e = refl
  runs_of_calls_alike t' [] (f ∷ fs) none (more d r) e = absurd (omega (arith, ap length e))
  runs_of_calls_alike t' (x ∷ es) [] (more d r) none e = absurd (omega (arith, ap length e))
  runs_of_calls_alike t' (x ∷ es) (f ∷ fs) (more {s = s} d r) (more {s' = s'} d' r') e =
      let same-call : x.call ≡ f.call = ap (first_call x.call) e in
      let one = does_alike d (subst (λ (c : Call). Does H reach s c f.answer f.tokens s') (sym same-call) d') in
      let head : x ≡ f = (λ i. record { call = same-call i; answer = one.answer i; tokens = one.tokens i }) in
      let rest = runs_of_calls_alike t' es fs r (subst (λ (y : State). Run H reach y fs t') (sym one.state) r') (ap (drop 1) e) in
      ap (λ y. y ∷ es) head ∙ ap (λ l. f ∷ l) rest
