-- What holds of every run of a service. Assumes nothing.
use Rattle.std.specs.Prelude.{◌≡◌, ℕ, ◌^◌, ◌<◌, ◌≤◌, List, [], ◌∷◌, ◌++◌, map, Some, ◌≢◌}
use Rattle.parser.specs.Sets.{Lists, Same}
use Rattle.sheet.specs.declared.fault.Reason.TheVariants.{TooDeep, ReachSpent, NoRoom}
use Rattle.sheet.specs.declared.lexeme.Lexeme.{Lexeme}
use Rattle.sheet.specs.declared.lexeme.Place.{Place}
use Rattle.sheet.specs.declared.lexeme.Token.{Token}
use Rattle.sheet.specs.Tokens.{written}
use Rattle.layout.specs.Layout.{Turns, TurnsIntoSentence}
use Rattle.layout.specs.Service.{Does, Event, Run, State, new}
use Rattle.layout.specs.declared.call.Answer.{Answer}
use Rattle.layout.specs.declared.call.Answer.TheVariants.{Closed as closed, Count as count, Refused as refused, Ticket as ticket}
use Rattle.layout.specs.declared.call.Call.{Call}
use Rattle.layout.specs.declared.call.Call.TheVariants.{Begin as begin, Feed as feed, Finish as finish, GiveUp as give_up}

-- a call is inside the limits when it is not refused as too deep, for a reach that is spent or for want of room
abbrev pub Inside : Answer → Type 0
Inside (ticket n) = Unit {0}
Inside (count n) = Unit {0}
Inside closed = Unit {0}
Inside (refused f) = (f.reason ≢ TooDeep) × (f.reason ≢ ReachSpent) × (f.reason ≢ NoRoom)

-- a call that writes is accepted by its count
abbrev pub Accepted : Answer → Type 0
Accepted (ticket n) = ⊥
Accepted (count n) = Unit {0}
Accepted closed = ⊥
Accepted (refused f) = ⊥

-- the lexemes accepted and the tokens written since begin
pub record Sheet : Type 0 where
  pub lexemes : List Lexeme
  pub tokens : List Token

abbrev pub fed : Sheet → Lexeme → Answer → List Token → Sheet
fed x l (ticket n) ts = x
fed x l (count n) ts = record { lexemes = x.lexemes ++ l ∷ []; tokens = x.tokens ++ ts }
fed x l closed ts = x
fed x l (refused f) ts = x

abbrev pub begun : Sheet → Answer → Sheet
begun x (ticket n) = record { lexemes = []; tokens = [] }
begun x (count n) = x
begun x closed = x
begun x (refused f) = x

abbrev pub since : Sheet → Call → Answer → List Token → Sheet
since x begin a ts = begun x a
since x (feed t l free) a ts = fed x l a ts
since x (finish t p free) a ts = x
since x (give_up t) a ts = x

-- of a run, from what was there before
abbrev pub since_begin : Sheet → List Event → Sheet
since_begin x [] = x
since_begin x (e ∷ es) = since_begin (since x e.call e.answer e.tokens) es

abbrev pub sheet_of : List Event → Sheet
sheet_of es = since_begin (record { lexemes = []; tokens = [] }) es

-- inside the limits, a sheet is finished exactly when the rules turn its lexemes into a sentence, and its tokens are then what they write
pub record FinishLaw (G : Lists) (reach : ℕ) : Type 0 where
  pub accepted : (first : ℕ) (es : List Event) (s s' : State) (t : ℕ) (p : Place) (free : ℕ) (a : Answer) (ts : List Token) → Run G reach (new first) es s → s.sheet ≡ Some t → Does G reach s (finish t p free) a ts s'
      → Accepted a → Turns G (sheet_of es).lexemes p ((sheet_of es).tokens ++ ts) × TurnsIntoSentence G (sheet_of es).lexemes p
  pub accepts : (first : ℕ) (es : List Event) (s s' : State) (t : ℕ) (p : Place) (free : ℕ) (a : Answer) (ts : List Token) → Run G reach (new first) es s → s.sheet ≡ Some t → Does G reach s (finish t p free) a ts s'
      → Inside a → TurnsIntoSentence G (sheet_of es).lexemes p → Accepted a

-- a token is typed again as a lexeme: at any column that may be fed, and with any flag
pub record Retyped (t : Token) (l : Lexeme) : Type 0 where
  pub kind : l.kind ≡ t.kind
  pub line : l.line ≡ t.line
  pub offset : l.offset ≡ t.offset
  pub length : l.length ≡ t.length
  pub from : 1 ≤ l.column
  pub to : l.column ≤ 4095

-- a lexeme that is fed, with how many places are free then
pub record Feeding : Type 0 where
  pub lexeme : Lexeme
  pub free : ℕ

-- tokens are typed again one by one, and at each a place is free
pub data Again : List Token → List Feeding → Type 0 where
  none : Again [] []
  one : {t : Token} {ts : List Token} {x : Feeding} {xs : List Feeding} → Retyped t x.lexeme → 1 ≤ x.free → Again ts xs → Again (t ∷ ts) (x ∷ xs)

-- a lexeme that is written unchanged, without its flag and with nothing added
abbrev pub unchanged : ℕ → Feeding → Event
unchanged n x = record { call = feed n x.lexeme x.free; answer = count 1; tokens = written x.lexeme ∷ [] }

-- a whole sheet, begun first and finished last, of which each lexeme is written unchanged, and finish writes nothing
abbrev pub all_unchanged : ℕ → List Feeding → Place → ℕ → List Event
all_unchanged n xs p free = record { call = begin; answer = ticket n; tokens = [] } ∷ (map (unchanged n) xs ++ record { call = finish n p free; answer = count 0; tokens = [] } ∷ [])

-- the calls of a run
abbrev pub calls : List Event → List Call
calls es = map (λ (e : Event). e.call) es

-- the tokens of a finished sheet, fed again to a new service, are written unchanged: there is such a run, and any run of these calls is it
pub record AgainLaw (G : Lists) (reach : ℕ) (H : Lists) (reach' : ℕ) : Type 0 where
  pub runs : (first : ℕ) (es : List Event) (s s' : State) (t : ℕ) (p : Place) (free n : ℕ) (ts : List Token) → Run G reach (new first) es s → Does G reach s (finish t p free) (count n) ts s'
      → (first' : ℕ) (xs : List Feeding) (q : Place) (free' : ℕ) → first' < 2 ^ 64 → Again ((sheet_of es).tokens ++ ts) xs → (s'' : State) × Run H reach' (new first') (all_unchanged first' xs q free') s''
  pub only : (first : ℕ) (es : List Event) (s s' : State) (t : ℕ) (p : Place) (free n : ℕ) (ts : List Token) → Run G reach (new first) es s → Does G reach s (finish t p free) (count n) ts s'
      → (first' : ℕ) (xs : List Feeding) (q : Place) (free' : ℕ) → first' < 2 ^ 64 → Again ((sheet_of es).tokens ++ ts) xs
      → (fs : List Event) (s'' : State) → Run H reach' (new first') fs s'' → calls fs ≡ calls (all_unchanged first' xs q free') → fs ≡ all_unchanged first' xs q free'

-- two runs with the same calls have the same answers and the same tokens
abbrev pub AlikeLaw : Lists → ℕ → Lists → ℕ → Type 0
AlikeLaw G reach H reach' = (first : ℕ) (es fs : List Event) (s t : State) → Run G reach (new first) es s → Run H reach' (new first) fs t → calls es ≡ calls fs → es ≡ fs

-- the law of every run, over a parser of language G and reach, and another of language H and reach'
pub record Law (G : Lists) (reach : ℕ) (H : Lists) (reach' : ℕ) : Type 0 where
  pub finish : FinishLaw G reach
  pub again : Same G H → reach ≤ reach' → AgainLaw G reach H reach'
  pub alike : Same G H → reach ≡ reach' → AlikeLaw G reach H reach'
