-- A service that turns sheets into tokens, one sheet at a time: what each call answers, writes and leaves. Assumes nothing.
use Rattle.std.specs.Prelude.{◌≡◌, ℕ, ◌+◌, ◌-◌, ◌^◌, ◌<◌, ◌≤◌, List, [], ◌∷◌, ◌++◌, length, Some, None, Ok, Err, Option, Result, ◌≢◌}
use Rattle.parser.specs.Sets.{Lists}
use Rattle.sheet.specs.declared.fault.Fault.{Fault}
use Rattle.sheet.specs.declared.fault.Reason.{Reason}
use Rattle.sheet.specs.declared.fault.Reason.TheVariants.{SheetOpen, NumbersSpent, WrongTicket, BadLexeme, NoRoom, NotComplete}
use Rattle.sheet.specs.declared.lexeme.Lexeme.{Lexeme}
use Rattle.sheet.specs.declared.lexeme.Place.{Place}
use Rattle.sheet.specs.declared.lexeme.Token.{Token}
use Rattle.layout.specs.First.{innermost_of}
use Rattle.layout.specs.Layout.{kinds}
use Rattle.layout.specs.Limits.{Laid, Runs}
use Rattle.layout.specs.Marks.{after, end_mark, mark_of}
use Rattle.layout.specs.declared.call.Answer.{Answer}
use Rattle.layout.specs.declared.call.Answer.TheVariants.{Ticket as ticket, Count as count, Closed as closed, Refused as refused}
use Rattle.layout.specs.declared.call.Call.{Call}
use Rattle.layout.specs.declared.call.Call.TheVariants.{Begin as begin, Feed as feed, Finish as finish, GiveUp as give_up}
use Rattle.layout.specs.declared.rule.Before.{Before}
use Rattle.layout.specs.declared.rule.Before.TheVariants.{Nothing}
use Rattle.layout.specs.declared.rule.Coming.TheVariants.{Lexeme as lexeme, End as ending}

-- between calls: the open sheet's number, the number that the next sheet gets (2 ^ 64 once none is left), the contexts, what stands before the next lexeme, and the kinds written since begin
pub record State : Type 0 where
  pub sheet : Option ℕ
  pub next : ℕ
  pub contexts : List ℕ
  pub before : Before
  pub written : List ℕ

-- a new service: no sheet is open
abbrev pub new : ℕ → State
new first = record { sheet = None; next = first; contexts = []; before = Nothing; written = [] }

-- a fault at a line and a column, with the innermost context before the call
abbrev pub fault : State → ℕ → ℕ → Reason → Fault
fault s line column why = record { reason = why; line = line; column = column; context = innermost_of s.contexts }

-- a lexeme that may be fed: its kind is one of the fifteen, and its column lies between 1 and 4,095
abbrev pub Good : Lexeme → Type 0
Good l = (1 ≤ l.kind) × (l.kind ≤ 15) × (1 ≤ l.column) × (l.column ≤ 4095)

-- a call with its answer and the tokens that it wrote
pub record Event : Type 0 where
  pub call : Call
  pub answer : Answer
  pub tokens : List Token

module _ (G : Lists) (reach : ℕ) where
  -- the rules over a lexeme, or over the end, from a state
  abbrev pub Feeds : State → Lexeme → Result Laid Reason → Type 0
  Feeds s l o = Runs G s.written (reach - length s.written) s.contexts (mark_of s.before l) (lexeme l) o

  abbrev pub Finishes : State → Place → Result Laid Reason → Type 0
  Finishes s p o = Runs G s.written (reach - length s.written) s.contexts (end_mark s.before) (ending p) o

  -- why a lexeme is not accepted
  pub data FeedFails (s : State) (t : ℕ) (l : Lexeme) (free : ℕ) : Reason → Type 0 where
    wrong_ticket : (s.sheet ≢ Some t) → FeedFails s t l free WrongTicket
    bad_lexeme : s.sheet ≡ Some t → (Good l → ⊥) → FeedFails s t l free BadLexeme
    stopped : {why : Reason} → s.sheet ≡ Some t → Good l → Feeds s l (Err why) → FeedFails s t l free why
    no_room : {x : Laid} → s.sheet ≡ Some t → Good l → Feeds s l (Ok x) → free < length x.tokens → FeedFails s t l free NoRoom

  -- why a sheet is not finished
  pub data FinishFails (s : State) (t : ℕ) (p : Place) (free : ℕ) : Reason → Type 0 where
    wrong_ticket : (s.sheet ≢ Some t) → FinishFails s t p free WrongTicket
    stopped : {why : Reason} → s.sheet ≡ Some t → Finishes s p (Err why) → FinishFails s t p free why
    not_complete : {x : Laid} → s.sheet ≡ Some t → Finishes s p (Ok x) → (G (s.written ++ kinds x.tokens) → ⊥) → FinishFails s t p free NotComplete
    no_room : {x : Laid} → s.sheet ≡ Some t → Finishes s p (Ok x) → G (s.written ++ kinds x.tokens) → free < length x.tokens → FinishFails s t p free NoRoom

  -- a call at a state: its answer, the tokens that it writes, and the state that it leaves
  pub data Does : State → Call → Answer → List Token → State → Type 0 where
    begins : {s : State} → s.sheet ≡ None → s.next < 2 ^ 64 → Does s begin (ticket s.next) [] (record { sheet = Some s.next; next = s.next + 1; contexts = []; before = Nothing; written = [] })
    begin_open : {s : State} {n : ℕ} → s.sheet ≡ Some n → Does s begin (refused (fault s 0 0 SheetOpen)) [] s
    begin_spent : {s : State} → s.sheet ≡ None → 2 ^ 64 ≤ s.next → Does s begin (refused (fault s 0 0 NumbersSpent)) [] s
    feeds : {s : State} {t : ℕ} {l : Lexeme} {free : ℕ} {x : Laid} → s.sheet ≡ Some t → Good l → Feeds s l (Ok x) → length x.tokens ≤ free
        → Does s (feed t l free) (count (length x.tokens)) x.tokens (record { sheet = s.sheet; next = s.next; contexts = x.contexts; before = after l.kind; written = s.written ++ kinds x.tokens })
    feed_fails : {s : State} {t : ℕ} {l : Lexeme} {free : ℕ} {why : Reason} → FeedFails s t l free why → Does s (feed t l free) (refused (fault s l.line l.column why)) [] s
    finishes : {s : State} {t : ℕ} {p : Place} {free : ℕ} {x : Laid} → s.sheet ≡ Some t → Finishes s p (Ok x) → G (s.written ++ kinds x.tokens) → length x.tokens ≤ free
        → Does s (finish t p free) (count (length x.tokens)) x.tokens (record { sheet = None; next = s.next; contexts = []; before = s.before; written = s.written ++ kinds x.tokens })
    finish_fails : {s : State} {t : ℕ} {p : Place} {free : ℕ} {why : Reason} → FinishFails s t p free why → Does s (finish t p free) (refused (fault s p.line p.column why)) [] s
    gives_up : {s : State} {t : ℕ} → s.sheet ≡ Some t → Does s (give_up t) closed [] (record { sheet = None; next = s.next; contexts = []; before = s.before; written = s.written })
    give_up_fails : {s : State} {t : ℕ} → (s.sheet ≢ Some t) → Does s (give_up t) (refused (fault s 0 0 WrongTicket)) [] s

  -- a run: calls one after another, each at the state that the former left
  pub data Run : State → List Event → State → Type 0 where
    none : {s : State} → Run s [] s
    more : {s s' s'' : State} {e : Event} {es : List Event} → Does s e.call e.answer e.tokens s' → Run s' es s'' → Run s (e ∷ es) s''
