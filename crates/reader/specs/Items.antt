-- The items of a text, its lexemes and its faults in their order, and what one reading does with them. Assumes nothing.
use Rattle.std.specs.Prelude.{ℕ, zero, suc, ◌-◌, cond, List, [], ◌∷◌, ◌++◌, drop, None, Ok, Err, Result, nat_lt}
use Rattle.sheet.specs.Kinds.{kind_number}
use Rattle.sheet.specs.declared.fault.Fault.{Fault}
use Rattle.sheet.specs.declared.fault.Reason.{Reason}
use Rattle.sheet.specs.declared.fault.Reason.TheVariants.{UnreadableByte, RunTooLong, ColumnTooFar}
use Rattle.sheet.specs.declared.lexeme.Kind.{Kind}
use Rattle.sheet.specs.declared.lexeme.Lexeme.{Lexeme}
use Rattle.reader.specs.Places.{line_at, column_at, first_at}
use Rattle.reader.specs.declared.cursor.Cursor.{Cursor}
use Rattle.reader.specs.Runs.{Front, gap, stray, run, front}

-- a lexeme, or a fault with the offset and the length of what it refuses
pub data Item : Type 0 where
  good : Lexeme → Item
  bad : (offset long : ℕ) → Fault → Item

-- where offset i stands
abbrev pub spot : List ℕ → ℕ → Cursor
spot t i = record { offset = i; line = line_at t i; column = column_at t i; first = first_at t i }

-- the lexeme of n bytes at a spot
abbrev pub lexeme_at : Cursor → Kind → ℕ → Lexeme
lexeme_at c k n = record { kind = kind_number k; line = c.line; column = c.column; first = c.first; offset = c.offset; length = n }

-- a fault at a spot
abbrev pub fault_at : Cursor → Reason → Fault
fault_at c why = record { reason = why; line = c.line; column = c.column; context = None }

-- a run is refused if it has more than 64 bytes, and then if it begins past column 4,095
abbrev pub judged : Cursor → Kind → ℕ → Result Lexeme Fault
judged c k n =
    cond (nat_lt 64 n) (Err (fault_at c RunTooLong)) (cond (nat_lt 4095 c.column) (Err (fault_at c ColumnTooFar)) (Ok (lexeme_at c k n)))

-- the item of n bytes at offset i
abbrev pub item_of : ℕ → ℕ → Result Lexeme Fault → Item
item_of i n (Ok l) = good l
item_of i n (Err f) = bad i n f

-- what the text has at offset i
abbrev pub here : List ℕ → ℕ → Front → List Item
here t i gap = []
here t i stray = bad i 1 (fault_at (spot t i) UnreadableByte) ∷ []
here t i (run k n) = item_of i n (judged (spot t i) k n) ∷ []

-- how many bytes that takes
abbrev pub extent : Front → ℕ
extent gap = 1
extent stray = 1
extent (run k n) = n

-- the items of the bytes from offset i on, of which the first few are inside an item that was told already
abbrev pub items_from : List ℕ → ℕ → ℕ → List ℕ → List Item
items_from t inside i [] = []
items_from t (suc n) i (b ∷ bs) = items_from t n (suc i) bs
items_from t zero i (b ∷ bs) = here t i (front (b ∷ bs)) ++ items_from t (extent (front (b ∷ bs)) - 1) (suc i) bs

-- the items of a text from offset i on
abbrev pub items : List ℕ → ℕ → List Item
items t i = items_from t 0 i (drop i t)
