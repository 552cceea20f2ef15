use Rattle.std.proofs.Common.{◌≡◌, length, take}
use Rattle.table.proofs.level.write_over.Given as goal

-- so many are written
abbrev pub invariant-loop-at : goal.invariant-loop-at
invariant-loop-at l =
    (length l.symbols ≡ length l.others) × (take l.at l.symbols ≡ take l.at l.others)
