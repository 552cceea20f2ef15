-- What the code finds at an offset. Assumes nothing.
use Rattle.std.specs.Prelude.{◌≡◌, ℕ, ◌+◌, ◌<◌, List, [], ◌∷◌, length, Ok, Err, Result}
use Rattle.sheet.specs.declared.fault.Fault.{Fault}
use Rattle.sheet.specs.declared.lexeme.Lexeme.{Lexeme}
use Rattle.reader.specs.Cursors.{Placed}
use Rattle.reader.specs.Items.{item_of, items}
use Rattle.reader.specs.declared.item.Found.{Found}

-- the text ends at an offset
pub record Ends (t : List ℕ) (i : ℕ) : Type 0 where
  pub end : i ≡ length t
  pub none : items t i ≡ []

-- a lexeme begins at an offset
abbrev pub Begins : ℕ → Result Lexeme Fault → Type 0
Begins i (Ok l) = l.offset ≡ i
Begins i (Err f) = Unit {0}

-- an item of n bytes stands at an offset, and the cursor behind it
pub record Finds (t : List ℕ) (i : ℕ) (f : Found) : Type 0 where
  pub long : ℕ
  pub some : 0 < long
  pub begins : Begins i f.what
  pub placed : Placed t f.after
  pub past : f.after.offset ≡ i + long
  pub told : items t i ≡ item_of i long f.what ∷ items t f.after.offset
