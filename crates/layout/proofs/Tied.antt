-- A run on a resolver is a run of the service over its parser's language. Assumes nothing.
use Rattle.std.proofs.Common.{◌≡◌, ℕ, ◌-◌, List, [], ◌++◌, length, Result, sym, refl, ap, ◌∙◌, subst, arith, length-append, Option}
use Rattle.std.proofs.lemmas.List.{append_assoc, append-nil}
use Rattle.parser.specs.Meaning.{Meaning, started}
use Rattle.parser.specs.Sets.{Lists, Same}
use Rattle.parser.proofs.Meanings.{same_trans}
use Rattle.sheet.specs.declared.fault.Reason.{Reason}
use Rattle.sheet.specs.declared.lexeme.Lexeme.{Lexeme}
use Rattle.sheet.specs.declared.lexeme.Place.{Place}
use Rattle.sheet.specs.declared.lexeme.Token.{Token}
use Rattle.layout.specs.Calling.{anew, Calls, from, over}
use Rattle.layout.specs.Limits.{Laid, Runs}
use Rattle.layout.specs.Moves.{Took}
use Rattle.layout.specs.Service.{Does, FeedFails, FinishFails, State, begin_open, begin_spent, begins, feed_fails, feeds, finish_fails, finishes, give_up_fails, gives_up, new}
use Rattle.layout.specs.declared.call.Answer.{Answer}
use Rattle.layout.specs.declared.call.Answer.TheVariants.{Ticket as ticket, Count as count, Closed as closed, Refused as refused}
use Rattle.layout.specs.declared.call.Call.{Call}
use Rattle.layout.specs.declared.call.Call.TheVariants.{Begin as begin, Feed as feed, Finish as finish, GiveUp as give_up}
use Rattle.layout.specs.declared.rule.Coming.{Coming}
use Rattle.layout.specs.declared.rule.Mark.{Mark}
use Rattle.layout.proofs.Shifts.{runs_at}

-- what is written by a call comes behind what was written before, but begin starts anew
abbrev pub begun_kinds : Answer → List ℕ → List ℕ → List ℕ
begun_kinds (ticket n) u v = v
begun_kinds (count n) u v = u ++ v
begun_kinds closed u v = u ++ v
begun_kinds (refused f) u v = u ++ v

abbrev pub grown : Call → Answer → List ℕ → List ℕ → List ℕ
grown begin a u v = begun_kinds a u v
grown (feed t l free) a u v = u ++ v
grown (finish t p free) a u v = u ++ v
grown (give_up t) a u v = u ++ v

-- a call that was made where nothing counts as written, as one after what was written
pub record Shifted (G : Lists) (reach : ℕ) (s : State) (c : Call) (a : Answer) (ts : List Token) (l : State) : Type 0 where
  pub to : State
  pub does : Does G reach s c a ts to
  pub same : anew to ≡ anew l
  pub written : to.written ≡ grown c a s.written l.written

module _ (G R : Lists) (reach left : ℕ) (s : State) (same : Same R (λ w. G (s.written ++ w))) (all : left ≡ reach - length s.written) where
  -- the rules from there
  runs_there : {ks : List ℕ} {m : Option Mark} {c : Coming} {o : Result Laid Reason} → Runs R [] (left - 0) ks m c o → Runs G s.written (reach - length s.written) ks m c o
  runs_there {ks} {m} {c} {o} r = let n : left - 0 ≡ reach - length s.written = omega arith in subst (λ k. Runs G s.written k ks m c o) n (runs_at R G s.written same r)

  feed_there : {t : ℕ} {l : Lexeme} {free : ℕ} {why : Reason} → FeedFails R left (anew s) t l free why → FeedFails G reach s t l free why
  feed_there (FeedFails.wrong_ticket n) = FeedFails.wrong_ticket n
  feed_there (FeedFails.bad_lexeme e b) = FeedFails.bad_lexeme e b
  feed_there (FeedFails.stopped e b r) = FeedFails.stopped e b (runs_there r)
  feed_there (FeedFails.no_room e b r f) = FeedFails.no_room e b (runs_there r) f

  finish_there : {t : ℕ} {p : Place} {free : ℕ} {why : Reason} → FinishFails R left (anew s) t p free why → FinishFails G reach s t p free why
  finish_there (FinishFails.wrong_ticket n) = FinishFails.wrong_ticket n
  finish_there (FinishFails.stopped e r) = FinishFails.stopped e (runs_there r)
  finish_there (FinishFails.not_complete e r n) = FinishFails.not_complete e (runs_there r) (λ g. n ((same _).1 g))
  finish_there (FinishFails.no_room e r g f) = FinishFails.no_room e (runs_there r) ((same _).0 g) f

  -- nothing is written
  unchanged : (c : Call) (a : Answer) → grown c a s.written [] ≡ s.written ++ [] → Does G reach s c a [] s → Shifted G reach s c a [] (anew s)
  unchanged c a e d = record { to = s; does = d; same = refl; written = sym (append-nil s.written) ∙ sym e }

  pub shift : {c : Call} {a : Answer} {ts : List Token} {l : State} → Does R left (anew s) c a ts l → Shifted G reach s c a ts l
  shift (begins e n) = record { to = _; does = begins e n; same = refl; written = refl }
  shift (begin_open e) = unchanged _ _ refl (begin_open e)
  shift (begin_spent e n) = unchanged _ _ refl (begin_spent e n)
  shift (feeds e b r f) = record { to = _; does = feeds e b (runs_there r) f; same = refl; written = refl }
  shift (feed_fails w) = unchanged _ _ refl (feed_fails (feed_there w))
  shift (finishes e r g f) = record { to = _; does = finishes e (runs_there r) ((same _).0 g) f; same = refl; written = refl }
  shift (finish_fails w) = unchanged _ _ refl (finish_fails (finish_there w))
  shift (gives_up e) = record { to = _; does = gives_up e; same = refl; written = sym (append-nil s.written) }
  shift (give_up_fails n) = unchanged _ _ refl (give_up_fails n)

-- a resolver stands where a run of the service does, and its parser has taken what was written
pub record Tied (G : Lists) (reach : ℕ) (s : State) (m : Meaning) (z : State) : Type 0 where
  pub state : z ≡ anew s
  pub language : Same m.language G
  pub takes : m.reach ≡ reach
  pub remainder : Same m.remainder (λ w. G (s.written ++ w))
  pub left : m.left ≡ reach - length s.written

-- a parser that was started
pub tied_new : (G : Lists) (reach first : ℕ) (m n : Meaning) (z : State) → Same m.language G → m.reach ≡ reach → z ≡ new first → Took [] (started m) n → Tied G reach (new first) n z
tied_new G reach first m n z same is state took =
    record { state = state; language = same_trans took.language same; takes = took.reach ∙ is; remainder = same_trans took.remainder same; left = omega (arith, took.left) }

-- one call more
pub record Stepped (G : Lists) (reach : ℕ) (s : State) (c : Call) (a : Answer) (ts : List Token) (n : Meaning) (z : State) : Type 0 where
  pub to : State
  pub does : Does G reach s c a ts to
  pub tied : Tied G reach to n z

module _ (G : Lists) (reach : ℕ) (s : State) (m n : Meaning) (z z' : State) (tied : Tied G reach s m z) where
  -- the parser takes more, or starts anew
  takes_more : (v : List ℕ) (s' : State) → s'.written ≡ s.written ++ v → Took v m n → z' ≡ anew s' → Tied G reach s' n z'
  takes_more v s' e took state =
      record {
        state = state;
        language = same_trans took.language tied.language;
        takes = took.reach ∙ tied.takes;
        remainder = subst (λ (u : List ℕ). Same n.remainder (λ w. G (u ++ w))) (sym e) (same_trans took.remainder (λ w. let x = tied.remainder (v ++ w) in let r = append_assoc s.written v w in (λ y. subst G (sym r) (x.0 y), λ y. x.1 (subst G r y))));
        left = omega (arith, took.left, tied.left, ap length e, length-append s.written v);
      }

  starts : (v : List ℕ) (s' : State) → s'.written ≡ v → Took v (started m) n → z' ≡ anew s' → Tied G reach s' n z'
  starts v s' e took state =
      record {
        state = state;
        language = same_trans took.language tied.language;
        takes = took.reach ∙ tied.takes;
        remainder = subst (λ (u : List ℕ). Same n.remainder (λ w. G (u ++ w))) (sym e) (same_trans took.remainder (λ w. tied.language (v ++ w)));
        left = omega (arith, took.left, tied.takes, ap length e);
      }

  goes_on : (c : Call) (a : Answer) (v : List ℕ) (s' : State) → s'.written ≡ grown c a s.written v → Took v (from c a m) n → z' ≡ anew s' → Tied G reach s' n z'
  goes_on begin (ticket k) v s' e took state = starts v s' e took state
  goes_on begin (count k) v s' e took state = takes_more v s' e took state
  goes_on begin closed v s' e took state = takes_more v s' e took state
  goes_on begin (refused f) v s' e took state = takes_more v s' e took state
  goes_on (feed t l free) a v s' e took state = takes_more v s' e took state
  goes_on (finish t p free) a v s' e took state = takes_more v s' e took state
  goes_on (give_up t) a v s' e took state = takes_more v s' e took state

  pub tied_step : (c : Call) (a : Answer) (ts : List Token) → Calls (over m z) c a ts (over n z') → Stepped G reach s c a ts n z'
  tied_step c a ts x =
      let moved = shift G m.remainder reach m.left s tied.remainder tied.left (subst (λ (y : State). Does m.remainder m.left y c a ts x.left) tied.state x.does) in
      record { to = moved.to; does = moved.does; tied = goes_on c a x.left.written moved.to moved.written x.parser (x.state ∙ sym moved.same) }
