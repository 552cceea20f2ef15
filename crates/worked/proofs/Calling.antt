-- The calls of a service, computed with tests of what is viable and of what is a sentence; and what is computed is so. Assumes nothing.
use Rattle.std.proofs.Common.{◌≡◌, ℕ, ◌+◌, ◌-◌, ◌^◌, ◌<◌, ◌≤◌, Bool, true, false, ◌&&◌, ltb, leb, List, [], ◌∷◌, ◌++◌, length, Some, None, Ok, Err, Decides, Option, Result, refl, arith}
use Rattle.parser.specs.Sets.{Lists}
use Rattle.sheet.specs.declared.fault.Reason.{Reason}
use Rattle.sheet.specs.declared.fault.Reason.TheVariants.{SheetOpen, NumbersSpent, WrongTicket, BadLexeme, NoRoom, NotComplete}
use Rattle.sheet.specs.declared.lexeme.Lexeme.{Lexeme}
use Rattle.sheet.specs.declared.lexeme.Place.{Place}
use Rattle.sheet.specs.declared.lexeme.Token.{Token}
use Rattle.layout.specs.Layout.{kinds}
use Rattle.layout.specs.Limits.{Laid}
use Rattle.layout.specs.Marks.{after, end_mark, mark_of}
use Rattle.layout.specs.Rules.{Viable}
use Rattle.layout.specs.Service.{Does, Event, FeedFails, Feeds, FinishFails, Finishes, Good, Run, State, begin_open, begin_spent, begins, fault, feed_fails, feeds, finish_fails, finishes, give_up_fails, gives_up, more, none}
use Rattle.layout.specs.declared.call.Answer.{Answer}
use Rattle.layout.specs.declared.call.Answer.TheVariants.{Ticket as ticket, Count as count, Closed as closed, Refused as refused}
use Rattle.layout.specs.declared.call.Call.{Call}
use Rattle.layout.specs.declared.call.Call.TheVariants.{Begin as begin, Feed as feed, Finish as finish, GiveUp as give_up}
use Rattle.layout.specs.declared.rule.Before.TheVariants.{Nothing}
use Rattle.layout.specs.declared.rule.Coming.TheVariants.{Lexeme as lexeme, End as ending}
use Rattle.worked.proofs.Laying.{runs?, runs_so}
use Rattle.worked.proofs.Tells.{IfAny, Tells, holds?, tells, tells_at_most, tells_below, tells_holds}

-- what a call answers, writes and leaves
pub record Outcome : Type 0 where
  pub answer : Answer
  pub tokens : List Token
  pub state : State

-- it is refused
abbrev pub refusal : State → ℕ → ℕ → Reason → Outcome
refusal s l c why = record { answer = refused (fault s l c why); tokens = []; state = s }

-- begin, by the open sheet and whether a number is left
abbrev pub begin? : State → Option ℕ → Bool → Outcome
begin? s (Some n) b = refusal s 0 0 SheetOpen
begin? s None true = record { answer = ticket s.next; tokens = []; state = record { sheet = Some s.next; next = s.next + 1; contexts = []; before = Nothing; written = [] } }
begin? s None false = refusal s 0 0 NumbersSpent

-- a lexeme's tokens are written, where there is room
abbrev pub accept? : State → Lexeme → Laid → Bool → Outcome
accept? s l x true =
    record { answer = count (length x.tokens); tokens = x.tokens; state = record { sheet = s.sheet; next = s.next; contexts = x.contexts; before = after l.kind; written = s.written ++ kinds x.tokens } }
accept? s l x false = refusal s l.line l.column NoRoom

-- feed, by whether the ticket is right, whether the lexeme is good and what the rules do
abbrev pub feed? : State → Lexeme → ℕ → Bool → Bool → Option (Result Laid Reason) → Option Outcome
feed? s l free false g o = Some (refusal s l.line l.column WrongTicket)
feed? s l free true false o = Some (refusal s l.line l.column BadLexeme)
feed? s l free true true None = None
feed? s l free true true (Some (Err why)) = Some (refusal s l.line l.column why)
feed? s l free true true (Some (Ok x)) = Some (accept? s l x (leb (length x.tokens) free))

-- a sheet is closed, where its tokens are a sentence and there is room
abbrev pub close? : State → Place → Laid → Bool → Bool → Outcome
close? s p x false b = refusal s p.line p.column NotComplete
close? s p x true false = refusal s p.line p.column NoRoom
close? s p x true true =
    record { answer = count (length x.tokens); tokens = x.tokens; state = record { sheet = None; next = s.next; contexts = []; before = s.before; written = s.written ++ kinds x.tokens } }

-- give up, by whether the ticket is right
abbrev pub give_up? : State → Bool → Outcome
give_up? s true = record { answer = closed; tokens = []; state = record { sheet = None; next = s.next; contexts = []; before = s.before; written = s.written } }
give_up? s false = refusal s 0 0 WrongTicket

-- the calls of a run with their answers and tokens, and the state that they leave
pub record Ran : Type 0 where
  pub events : List Event
  pub state : State

-- a call before others
abbrev pub and_ran : Call → Outcome → Option Ran → Option Ran
and_ran c o None = None
and_ran c o (Some r) = Some (record { events = record { call = c; answer = o.answer; tokens = o.tokens } ∷ r.events; state = r.state })

abbrev pub first_then : Call → Option Outcome → (State → Option Ran) → Option Ran
first_then c None on = None
first_then c (Some o) on = and_ran c o (on o.state)

abbrev pub good? : Lexeme → Bool
good? l = (leb 1 l.kind && leb l.kind 15) && (leb 1 l.column && leb l.column 4095)

good_so : (l : Lexeme) → Tells (good? l) (Good l)
good_so l = by (leb 1 l.kind) (leb l.kind 15) (leb 1 l.column) (leb l.column 4095) (tells_at_most 1 l.kind) (tells_at_most l.kind 15) (tells_at_most 1 l.column) (tells_at_most l.column 4095)
  where
    by : (a b c d : Bool) → Tells a (1 ≤ l.kind) → Tells b (l.kind ≤ 15) → Tells c (1 ≤ l.column) → Tells d (l.column ≤ 4095) → Tells ((a && b) && (c && d)) (Good l)
    by true true true true p q r s = (p, q, r, s)
    by true true true false p q r s = λ x. s x.3
    by true true false d p q r s = λ x. r x.2
    by true false c d p q r s = λ x. q x.1
    by false b c d p q r s = λ x. p x.0

module _ (viable? : List ℕ → ℕ → Bool) (complete? : List ℕ → Bool) (reach : ℕ) where
  -- finish, by whether the ticket is right and what the rules do
  abbrev pub finish? : State → Place → ℕ → Bool → Option (Result Laid Reason) → Option Outcome
  finish? s p free false o = Some (refusal s p.line p.column WrongTicket)
  finish? s p free true None = None
  finish? s p free true (Some (Err why)) = Some (refusal s p.line p.column why)
  finish? s p free true (Some (Ok x)) = Some (close? s p x (complete? (s.written ++ kinds x.tokens)) (leb (length x.tokens) free))

  -- what the rules do at a lexeme and at the end; at most 100 are followed, since at most 64 blocks are open
  abbrev pub fed? : State → Lexeme → Option (Result Laid Reason)
  fed? s l = runs? viable? 100 s.written (reach - length s.written) s.contexts (mark_of s.before l) (lexeme l)

  abbrev pub ended? : State → Place → Option (Result Laid Reason)
  ended? s p = runs? viable? 100 s.written (reach - length s.written) s.contexts (end_mark s.before) (ending p)

  -- a call
  abbrev pub does? : State → Call → Option Outcome
  does? s begin = Some (begin? s s.sheet (ltb s.next (2 ^ 64)))
  does? s (feed t l free) = feed? s l free (holds? s.sheet t) (good? l) (fed? s l)
  does? s (finish t p free) = finish? s p free (holds? s.sheet t) (ended? s p)
  does? s (give_up t) = Some (give_up? s (holds? s.sheet t))

  -- calls one after another
  abbrev pub run? : State → List Call → Option Ran
  run? s [] = Some (record { events = []; state = s })
  run? s (c ∷ cs) = first_then c (does? s c) (λ s'. run? s' cs)

module _ (G : Lists) (viable? : List ℕ → ℕ → Bool) (complete? : List ℕ → Bool) (reach : ℕ) (sure : (u : List ℕ) (k : ℕ) → Decides (viable? u k) (Viable G u k)) (whole : (u : List ℕ) → Decides (complete? u) (G u)) where
  -- what is computed, if anything is, is what the call does
  abbrev DoesSo : State → Call → Option Outcome → Type 0
  DoesSo s c = IfAny (λ (o : Outcome). Does G reach s c o.answer o.tokens o.state)

  begin_so : (s : State) (o : Option ℕ) (b : Bool) → s.sheet ≡ o → Tells b (s.next < 2 ^ 64) → DoesSo s begin (Some (begin? s o b))
  begin_so s (Some n) b e less = begin_open e
  begin_so s None true e less = begins e less
  begin_so s None false e less = begin_spent e (omega arith)

  accept_so : (s : State) (t : ℕ) (l : Lexeme) (free : ℕ) (x : Laid) (b : Bool) → s.sheet ≡ Some t → Good l → Feeds G reach s l (Ok x) → Tells b (length x.tokens ≤ free) → DoesSo s (feed t l free) (Some (accept? s l x b))
  accept_so s t l free x true e good r room = feeds e good r room
  accept_so s t l free x false e good r room = feed_fails (FeedFails.no_room e good r (omega arith))

  feed_so : (s : State) (t : ℕ) (l : Lexeme) (free : ℕ) (a b : Bool) (o : Option (Result Laid Reason)) → Tells a (s.sheet ≡ Some t) → Tells b (Good l) → IfAny (Feeds G reach s l) o
      → DoesSo s (feed t l free) (feed? s l free a b o)
  feed_so s t l free false b o e good r = feed_fails (FeedFails.wrong_ticket e)
  feed_so s t l free true false o e good r = feed_fails (FeedFails.bad_lexeme e good)
  feed_so s t l free true true None e good r = tt
  feed_so s t l free true true (Some (Err why)) e good r = feed_fails (FeedFails.stopped e good r)
  feed_so s t l free true true (Some (Ok x)) e good r = accept_so s t l free x (leb (length x.tokens) free) e good r (tells_at_most (length x.tokens) free)

  close_so : (s : State) (t : ℕ) (p : Place) (free : ℕ) (x : Laid) (a b : Bool) → s.sheet ≡ Some t → Finishes G reach s p (Ok x) → Tells a (G (s.written ++ kinds x.tokens)) → Tells b (length x.tokens ≤ free)
      → DoesSo s (finish t p free) (Some (close? s p x a b))
  close_so s t p free x false b e r is room = finish_fails (FinishFails.not_complete e r is)
  close_so s t p free x true false e r is room = finish_fails (FinishFails.no_room e r is (omega arith))
  close_so s t p free x true true e r is room = finishes e r is room

  finish_so : (s : State) (t : ℕ) (p : Place) (free : ℕ) (a : Bool) (o : Option (Result Laid Reason)) → Tells a (s.sheet ≡ Some t) → IfAny (Finishes G reach s p) o
      → DoesSo s (finish t p free) (finish? viable? complete? reach s p free a o)
  finish_so s t p free false o e r = finish_fails (FinishFails.wrong_ticket e)
  finish_so s t p free true None e r = tt
  finish_so s t p free true (Some (Err why)) e r = finish_fails (FinishFails.stopped e r)
  finish_so s t p free true (Some (Ok x)) e r =
      let u = s.written ++ kinds x.tokens in
      close_so s t p free x (complete? u) (leb (length x.tokens) free) e r (tells (complete? u) (whole u)) (tells_at_most (length x.tokens) free)

  give_up_so : (s : State) (t : ℕ) (a : Bool) → Tells a (s.sheet ≡ Some t) → DoesSo s (give_up t) (Some (give_up? s a))
  give_up_so s t true e = gives_up e
  give_up_so s t false e = give_up_fails e

  does_so : (s : State) (c : Call) → DoesSo s c (does? viable? complete? reach s c)
  does_so s begin = begin_so s s.sheet (ltb s.next (2 ^ 64)) refl (tells_below s.next (2 ^ 64))
  does_so s (feed t l free) =
      feed_so s t l free (holds? s.sheet t) (good? l) (fed? viable? complete? reach s l) (tells_holds s.sheet t) (good_so l)
      (runs_so G viable? sure 100 s.written (reach - length s.written) s.contexts (mark_of s.before l) (lexeme l))
  does_so s (finish t p free) =
      finish_so s t p free (holds? s.sheet t) (ended? viable? complete? reach s p) (tells_holds s.sheet t)
      (runs_so G viable? sure 100 s.written (reach - length s.written) s.contexts (end_mark s.before) (ending p))
  does_so s (give_up t) = give_up_so s t (holds? s.sheet t) (tells_holds s.sheet t)

  -- and what calls do one after another
  abbrev RunSo : State → Option Ran → Type 0
  RunSo s = IfAny (λ (r : Ran). Run G reach s r.events r.state)

  and_ran_so : (s : State) (c : Call) (o : Outcome) (r : Option Ran) → Does G reach s c o.answer o.tokens o.state → RunSo o.state r → RunSo s (and_ran c o r)
  and_ran_so s c o None d r = tt
  and_ran_so s c o (Some x) d r = more d r

  first_then_so : (s : State) (c : Call) (o : Option Outcome) (on : State → Option Ran) → DoesSo s c o → ((s' : State) → RunSo s' (on s')) → RunSo s (first_then c o on)
  first_then_so s c None on d h = tt
  first_then_so s c (Some o) on d h = and_ran_so s c o (on o.state) d (h o.state)

  pub run_so : (s : State) (cs : List Call) → IfAny (λ (r : Ran). Run G reach s r.events r.state) (run? viable? complete? reach s cs)
  run_so s [] = none
  run_so s (c ∷ cs) = first_then_so s c (does? viable? complete? reach s c) (λ s'. run? viable? complete? reach s' cs) (does_so s c) (λ s'. run_so s' cs)
