-- How lexemes are spelled, and the longest one at an offset. Assumes nothing.
use Rattle.std.specs.Prelude.{◌≡◌, ℕ, ◌+◌, ◌<◌, ◌≤◌, Bool, true, false, List, [], ◌∷◌, ◌++◌, length, take, drop}
use Rattle.sheet.specs.declared.lexeme.Kind.{Kind}
use Rattle.sheet.specs.declared.lexeme.Kind.TheVariants.{Number}
use Rattle.reader.specs.Classes.{class, in_digits, in_name, is_gap}
use Rattle.reader.specs.Places.{byte}
use Rattle.reader.specs.Runs.{word_kind}
use Rattle.reader.specs.declared.class.Class.{Class}
use Rattle.reader.specs.declared.class.Class.TheVariants.{Letter, Sign}

-- every byte is of a class that passes a test
abbrev pub All : (Class → Bool) → List ℕ → Type 0
All p [] = Unit {0}
All p (b ∷ bs) = (p (class b) ≡ true) × All p bs

-- some digits
abbrev pub Digits : List ℕ → Type 0
Digits w = (0 < length w) × All in_digits w

-- bytes that spell a lexeme of a kind
pub data Spells (k : Kind) (w : List ℕ) : Type 0 where
  -- a letter, then letters, digits and apostrophes; five such names are keywords
  name : (b : ℕ) (bs : List ℕ) → w ≡ b ∷ bs → class b ≡ Letter → All in_name bs → k ≡ word_kind w → Spells k w
  -- digits
  whole : Digits w → k ≡ Number → Spells k w
  -- digits, a point and digits
  pointed : (ds es : List ℕ) → w ≡ ds ++ 46 ∷ es → Digits ds → Digits es → k ≡ Number → Spells k w
  -- one of the signs
  sign : (b : ℕ) → w ≡ b ∷ [] → class b ≡ Sign k → Spells k w

-- n bytes of a text from offset i on
abbrev pub part : List ℕ → ℕ → ℕ → List ℕ
part t i n = take n (drop i t)

-- the longest lexeme at offset i is of kind k and has n bytes
pub record Longest (t : List ℕ) (i : ℕ) (k : Kind) (n : ℕ) : Type 0 where
  pub within : i + n ≤ length t
  pub spelled : Spells k (part t i n)
  pub longest : (j : Kind) (m : ℕ) → n < m → i + m ≤ length t → Spells j (part t i m) → ⊥

-- no lexeme begins at offset i, and neither a blank nor a line end stands there
pub record Stray (t : List ℕ) (i : ℕ) : Type 0 where
  pub black : is_gap (class (byte t i)) ≡ false
  pub no_lexeme : (j : Kind) (m : ℕ) → i + m ≤ length t → Spells j (part t i m) → ⊥
