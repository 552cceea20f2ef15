-- Lines and columns of a text, both counted from 1. Assumes nothing.
use Rattle.std.specs.Prelude.{ℕ, zero, suc, ◌+◌, ◌-◌, ◌%◌, Bool, true, cond, not, ◌&&◌, ◌||◌, List, drop, ◌==◌, Some, None, Option, slice_index}
use Rattle.reader.specs.Classes.{class, blank, line_end}

-- the byte at an offset
abbrev pub byte : List ℕ → ℕ → ℕ
byte t i = slice_index t i

-- the column after a byte: a tab leads on to the next of 9, 17, 25 and so on, and any other byte is one column wide
abbrev pub next_column : ℕ → ℕ → ℕ
next_column b c = cond (b == 9) (c + 8 - (c - 1) % 8) (c + 1)

-- 13 10 stands at the front
abbrev pub crlf : List ℕ → Bool
crlf bs = byte bs 0 == 13 && byte bs 1 == 10

-- how many bytes the line end at the front has, if one stands there: 13 10 is one line end
abbrev pub line_end_length : List ℕ → Option ℕ
line_end_length bs = cond (line_end (class (byte bs 0))) (Some (cond (crlf bs) 2 1)) None

-- a line ends with the byte at an offset: of 13 10 with the 10
abbrev pub ends_line : List ℕ → ℕ → Bool
ends_line t i = line_end (class (byte t i)) && not (crlf (drop i t))

-- the line of an offset: one more than the lines that end before it
abbrev pub line_at : List ℕ → ℕ → ℕ
line_at t zero = 1
line_at t (suc i) = cond (ends_line t i) (line_at t i + 1) (line_at t i)

-- the column of an offset: each line begins at 1
abbrev pub column_at : List ℕ → ℕ → ℕ
column_at t zero = 1
column_at t (suc i) = cond (line_end (class (byte t i))) 1 (next_column (byte t i) (column_at t i))

-- only blanks stand before an offset on its line
abbrev pub first_at : List ℕ → ℕ → Bool
first_at t zero = true
first_at t (suc i) = line_end (class (byte t i)) || (blank (class (byte t i)) && first_at t i)
