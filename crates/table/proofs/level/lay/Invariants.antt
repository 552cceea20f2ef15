use Rattle.std.proofs.Common.{◌≡◌, ◌≤◌, ◌++◌, length, take}
use Rattle.table.proofs.level.lay.Given as goal

-- the symbols below stand as they were
abbrev pub invariant-loop-symbols : goal.invariant-loop-symbols
invariant-loop-symbols l =
    (l.below ≤ length l.symbols.items) × (take l.below l.symbols.items ≡ take l.below l.initial.symbols.items)

abbrev pub decreases-loop-symbols : goal.decreases-loop-symbols
decreases-loop-symbols l = length l.symbols.items

-- so many have been laid on them
abbrev pub invariant-loop-symbol : goal.invariant-loop-symbol
invariant-loop-symbol l = l.symbols.items ≡ take l.below l.fn.symbols.items ++ take l.symbol-index l.top
