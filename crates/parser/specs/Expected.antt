-- The kinds that a parser expects, as flags.
-- Assumes nothing.
use Rattle.std.specs.Prelude.{ℕ, Bool, false, List, slice_index_or}

-- whether the flags say that this kind is expected: the one at its number, and none past the last
abbrev pub flagged : List Bool → ℕ → Bool
flagged flags kind = slice_index_or flags kind false
