-- The number of the refusal of a text, and how it is written. Assumes nothing.
use Rattle.std.specs.Prelude.{ℕ, List, ◌++◌, codes, decimal}
use Rattle.reader.specs.declared.stop.TooLong.{TooLong}

-- a text too long
abbrev pub too_long_number : TooLong → ℕ
too_long_number _ = 4

-- as a fault is written: no line, no column and no layer, the number, and no context
abbrev pub too_long_text : TooLong → List ℕ
too_long_text r = codes "0 0 0 " ++ (decimal (too_long_number r) ++ codes " -")
