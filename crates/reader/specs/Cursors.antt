-- Where the reader stands in a text. Assumes nothing.
use Rattle.std.specs.Prelude.{◌≡◌, ℕ, ◌<◌, ◌≤◌, false, List, length}
use Rattle.reader.specs.Classes.{class, is_gap}
use Rattle.reader.specs.Places.{byte, line_at, column_at, first_at}
use Rattle.reader.specs.declared.cursor.Cursor.{Cursor}

-- a cursor stands in the text, and its line, its column and its flag are those of its offset
pub record Placed (t : List ℕ) (c : Cursor) : Type 0 where
  pub within : c.offset ≤ length t
  pub line : c.line ≡ line_at t c.offset
  pub column : c.column ≡ column_at t c.offset
  pub first : c.first ≡ first_at t c.offset

-- neither a blank nor a line end stands at an offset
abbrev pub NoGap : List ℕ → ℕ → Type 0
NoGap t i = i < length t → is_gap (class (byte t i)) ≡ false
