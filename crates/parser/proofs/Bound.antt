-- The meaning of a value at a bound: what a proof in generic code has of the two interfaces.
use Rattle.parser.specs.Meaning.{Meaning, meaning}
use Rattle.parser.specs.declared.Probing as probing
use Rattle.parser.specs.declared.Stepping as stepping

-- the meaning by the members of the two interfaces
abbrev pub means : {S : Type 0} → stepping.Ghosts S → probing.Ghosts S → S → Meaning
means s p = meaning record { remainder = p.remainder; language = s.language; reach = s.reach; left = s.left; saved = s.saved }
