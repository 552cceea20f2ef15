-- A whole sheet: which calls of the service are made for a text, and what comes of them. Assumes nothing.
use Rattle.std.specs.Prelude.{◌≡◌, ℕ, cond, List, [], ◌∷◌, ◌++◌, map, length, take, Ok, Err, vec_items, Result, nat_le, Vec}
use Rattle.std.specs.declared.alloc.Global.{Global}
use Rattle.parser.specs.Sets.{Lists}
use Rattle.sheet.specs.declared.fault.Fault.{Fault}
use Rattle.sheet.specs.declared.lexeme.Lexeme.{Lexeme}
use Rattle.sheet.specs.declared.lexeme.Place.{Place}
use Rattle.sheet.specs.declared.lexeme.Token.{Token}
use Rattle.reader.specs.Items.{items}
use Rattle.reader.specs.Laws.{tell}
use Rattle.reader.specs.Places.{column_at, line_at}
use Rattle.layout.specs.Layout.{Turns, kinds}
use Rattle.layout.specs.Service.{Does, State}
use Rattle.layout.specs.declared.call.Answer.{Answer}
use Rattle.layout.specs.declared.call.Answer.TheVariants.{Ticket as ticket, Count as count, Closed as closed, Refused as refused}
use Rattle.layout.specs.declared.call.Call.TheVariants.{Begin as begin, Feed as feed, Finish as finish, GiveUp as give_up}

-- what a text tells: its lexemes and the faults of the reader, in their order
abbrev pub told : List ℕ → List (Result Lexeme Fault)
told text = map tell (items text 0)

-- the place of its end
abbrev pub end_of : List ℕ → Place
end_of text = record { line = line_at text (length text); column = column_at text (length text) }

-- so many places are free for each call that writes
abbrev pub places : ℕ
places = 128

-- so many faults are kept
abbrev pub most_faults : ℕ
most_faults = 256

-- a text too long is read as empty
abbrev pub readable : List ℕ → List ℕ
readable t = cond (nat_le (length t) 65535) t []

-- all tokens of a sheet: those that feed wrote, with those of a finish that was accepted
abbrev pub all_tokens : List Token → Result (List Token) (List Fault) → List Token
all_tokens ts (Ok us) = us
all_tokens ts (Err gs) = ts

-- all its faults: those of the reader and of feed, else that of a begin or of a finish that was refused
abbrev pub all_faults : List Fault → Result (List Token) (List Fault) → List Fault
all_faults [] (Ok us) = []
all_faults [] (Err gs) = gs
all_faults (f ∷ fs) o = f ∷ fs

-- the fault of an answer that refuses
abbrev pub fault_of : Answer → List Fault
fault_of (ticket n) = []
fault_of (count n) = []
fault_of closed = []
fault_of (refused f) = f ∷ []

module _ (G : Lists) (reach : ℕ) where
  -- what a text tells is fed, lexeme by lexeme: the tokens that are written, and the faults of the reader and of feed, in the order of the text
  pub data Feeding (t : ℕ) : State → List (Result Lexeme Fault) → List Token → List Fault → State → Type 0 where
    none : {s : State} → Feeding t s [] [] [] s
    unread : {s s' : State} {f : Fault} {xs : List (Result Lexeme Fault)} {ts : List Token} {fs : List Fault} → Feeding t s xs ts fs s' → Feeding t s (Err f ∷ xs) ts (f ∷ fs) s'
    fed : {s s' s'' : State} {l : Lexeme} {a : Answer} {us : List Token} {xs : List (Result Lexeme Fault)} {ts : List Token} {fs : List Fault} → Does G reach s (feed t l places) a us s' → Feeding t s' xs ts fs s''
        → Feeding t s (Ok l ∷ xs) (us ++ ts) (fault_of a ++ fs) s''

  -- the end of a sheet that wrote tokens and had faults: what comes of it, and the state that is left
  pub data Ends (s : State) (t : ℕ) (p : Place) (ts : List Token) : List Fault → Result (List Token) (List Fault) → State → Type 0 where
    -- something was refused: the sheet is given up, and finish is not tried
    given_up : {s' : State} {f : Fault} {fs : List Fault} → Does G reach s (give_up t) closed [] s' → Ends s t p ts (f ∷ fs) (Err (take most_faults (f ∷ fs))) s'
    -- nothing was refused but finish
    unfinished : {s' s'' : State} {f : Fault} → Does G reach s (finish t p places) (refused f) [] s' → Does G reach s' (give_up t) closed [] s'' → Ends s t p ts [] (Err (f ∷ [])) s''
    -- nothing was refused: the tokens are all that feed and finish wrote
    finished : {s' : State} {n : ℕ} {us : List Token} → Does G reach s (finish t p places) (count n) us s' → Ends s t p ts [] (Ok (ts ++ us)) s'

  -- a whole sheet, from what its text tells to its tokens or its faults, and the state that is left
  pub data Whole (s : State) (xs : List (Result Lexeme Fault)) (p : Place) : Result (List Token) (List Fault) → State → Type 0 where
    not_begun : {s' : State} {f : Fault} → Does G reach s begin (refused f) [] s' → Whole s xs p (Err (f ∷ [])) s'
    begun : {s₁ s₂ s₃ : State} {t : ℕ} {ts : List Token} {fs : List Fault} {r : Result (List Token) (List Fault)} → Does G reach s begin (ticket t) [] s₁ → Feeding t s₁ xs ts fs s₂ → Ends s₂ t p ts fs r s₃ → Whole s xs p r s₃

  -- the same, with all its tokens and all its faults
  pub data Yields (s : State) (xs : List (Result Lexeme Fault)) (p : Place) : List Token → List Fault → Result (List Token) (List Fault) → State → Type 0 where
    not_begun : {s' : State} {f : Fault} → Does G reach s begin (refused f) [] s' → Yields s xs p [] (f ∷ []) (Err (f ∷ [])) s'
    begun : {s₁ s₂ s₃ : State} {t : ℕ} {ts : List Token} {fs : List Fault} {r : Result (List Token) (List Fault)} → Does G reach s begin (ticket t) [] s₁ → Feeding t s₁ xs ts fs s₂ → Ends s₂ t p ts fs r s₃ → Yields s xs p (all_tokens ts r) (all_faults fs r) r s₃

-- an outcome as lists
abbrev pub outcome : Result (Vec Token Global) (Vec Fault Global) → Result (List Token) (List Fault)
outcome (Ok ts) = Ok (vec_items ts)
outcome (Err fs) = Err (vec_items fs)

-- what comes of a sheet that had these tokens and these faults
abbrev pub verdict : List Token → List Fault → Result (List Token) (List Fault)
verdict ts [] = Ok ts
verdict ts (f ∷ fs) = Err (f ∷ fs)

-- the law of a sheet that comes to tokens: all of the text could be read, the layout rules turn its lexemes into exactly these tokens, and they are a sentence
pub record Sound (G : Lists) (text : List ℕ) (ts : List Token) : Type 0 where
  pub lexemes : List Lexeme
  pub read : told text ≡ map Ok lexemes
  pub turns : Turns G lexemes (end_of text) ts
  pub sentence : G (kinds ts)

abbrev pub Lawful : Lists → List ℕ → Result (List Token) (List Fault) → Type 0
Lawful G text (Ok ts) = Sound G text ts
Lawful G text (Err fs) = Unit {0}
