-- What holds of every text, in the words of the subject. Assumes nothing.
use Rattle.std.specs.Prelude.{◌≡◌, ℕ, ◌+◌, ◌-◌, ◌<◌, ◌≤◌, true, false, ◌⊎◌, List, [], ◌∷◌, ◌++◌, map, length, Some, None, Ok, Err, Option, Result}
use Rattle.sheet.specs.declared.fault.Fault.{Fault}
use Rattle.sheet.specs.declared.fault.Reason.TheVariants.{UnreadableByte}
use Rattle.sheet.specs.declared.lexeme.Kind.{Kind}
use Rattle.sheet.specs.declared.lexeme.Lexeme.{Lexeme}
use Rattle.reader.specs.Classes.{blank, class, is_gap, line_end}
use Rattle.reader.specs.Items.{Item, good, bad, fault_at, item_of, items, judged, spot}
use Rattle.reader.specs.Places.{byte, column_at, first_at, next_column}
use Rattle.reader.specs.Reading.{Reading, reading}
use Rattle.reader.specs.Spelling.{Longest, Stray, part}
use Rattle.reader.specs.declared.stop.Stop.{Stop}
use Rattle.reader.specs.declared.stop.Stop.TheVariants.{Fault as at_fault, Full as at_full}

-- what a text has from an offset on: blanks and line ends between its items, each item the longest lexeme, or a byte that begins none
pub data Has (t : List ℕ) : ℕ → List Item → Type 0 where
  end : Has t (length t) []
  gap : {i : ℕ} {xs : List Item} → i < length t → is_gap (class (byte t i)) ≡ true → Has t (i + 1) xs → Has t i xs
  run : {i n : ℕ} {k : Kind} {xs : List Item} → Longest t i k n → Has t (i + n) xs → Has t i (item_of i n (judged (spot t i) k n) ∷ xs)
  stray : {i : ℕ} {xs : List Item} → i < length t → Stray t i → Has t (i + 1) xs → Has t i (bad i 1 (fault_at (spot t i) UnreadableByte) ∷ xs)

-- where an item begins, and how many bytes it takes
abbrev pub begins : Item → ℕ
begins (good l) = l.offset
begins (bad i n f) = i

abbrev pub takes : Item → ℕ
takes (good l) = l.length
takes (bad i n f) = n

-- items lie between two offsets, each behind the one before
abbrev pub Ordered : ℕ → ℕ → List Item → Type 0
Ordered from to [] = from ≤ to
Ordered from to (x ∷ xs) = (from ≤ begins x) × Ordered (begins x + takes x) to xs

-- an item takes the byte at offset j
abbrev pub Taken : ℕ → List Item → Type 0
Taken j [] = ⊥
Taken j (x ∷ xs) = ((begins x ≤ j) × (j < begins x + takes x)) ⊎ Taken j xs

-- the line of offset i starts at s: the text does, or a line end stands before it, and none between
pub record Starts (t : List ℕ) (s i : ℕ) : Type 0 where
  pub before : s ≤ i
  pub start : (s ≡ 0) ⊎ (line_end (class (byte t (s - 1))) ≡ true)
  pub inside : (j : ℕ) → s ≤ j → j < i → line_end (class (byte t j)) ≡ false

-- the column to which some bytes lead, counted from a column
abbrev pub counted : ℕ → List ℕ → ℕ
counted c [] = c
counted c (b ∷ bs) = counted (next_column b c) bs

-- the column of an offset is counted from 1 at its line's start, and its flag says whether only blanks stand between
pub record Counted (t : List ℕ) (i : ℕ) : Type 0 where
  pub from : ℕ
  pub starts : Starts t from i
  pub column : column_at t i ≡ counted 1 (part t from (i - from))
  pub blanks : first_at t i ≡ true → (j : ℕ) → from ≤ j → j < i → blank (class (byte t j)) ≡ true
  pub other : first_at t i ≡ false → (j : ℕ) × ((from ≤ j) × (j < i) × (blank (class (byte t j)) ≡ false))

-- an item as a caller is told of it
abbrev pub tell : Item → Result Lexeme Fault
tell (good l) = Ok l
tell (bad i n f) = Err f

-- what a reading tells: the lexemes that it puts, and then the fault that it stops at, if any
abbrev pub tell_stop : Option Stop → List (Result Lexeme Fault)
tell_stop None = []
tell_stop (Some (at_fault f)) = Err f ∷ []
tell_stop (Some (at_full f)) = []

abbrev pub tells : Reading → List (Result Lexeme Fault)
tells r = map Ok r.put ++ tell_stop r.stop

-- what readings tell one after another, the first from offset i on, with these numbers of free places, and where they come to
abbrev pub told : List ℕ → ℕ → List ℕ → List (Result Lexeme Fault)
told t i [] = []
told t i (n ∷ ns) = tells (reading (length t) n (items t i)) ++ told t (reading (length t) n (items t i)).next ns

abbrev pub come_to : List ℕ → ℕ → List ℕ → ℕ
come_to t i [] = i
come_to t i (n ∷ ns) = come_to t (reading (length t) n (items t i)).next ns

pub record Laws (t : List ℕ) : Type 0 where
  -- the items are what the text has, and the only ones
  pub has : Has t 0 (items t 0)
  pub only : (xs : List Item) → Has t 0 xs → xs ≡ items t 0
  -- they lie in the text in order, without overlap
  pub ordered : Ordered 0 (length t) (items t 0)
  -- what lies between them is blanks and line ends
  pub between : (j : ℕ) → j < length t → Taken j (items t 0) ⊎ (is_gap (class (byte t j)) ≡ true)
  -- each column is counted from its line's start
  pub columns : (i : ℕ) → i ≤ length t → Counted t i
  -- read in pieces, however many places are free each time, the text tells what it has
  pub pieces : (ns : List ℕ) → told t 0 ns ++ map tell (items t (come_to t 0 ns)) ≡ map tell (items t 0)
