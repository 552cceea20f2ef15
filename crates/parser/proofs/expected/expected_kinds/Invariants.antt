use Rattle.std.proofs.Common.{◌≡◌, ℕ, ◌<◌, ◌≤◌, false, length, get_or, Decides}
use Rattle.parser.specs.Sets.{Begins}
use Rattle.parser.proofs.expected.expected_kinds.Given as goal

-- each flag written so far tells of its kind, and the one at 0 of none
abbrev pub invariant-loop-kind : goal.invariant-loop-kind
invariant-loop-kind g l =
    (length l.flags ≡ 16) × (get_or l.flags 0 false ≡ false) × ((k : ℕ) → k < l.kind → 1 ≤ k → Decides (get_or l.flags k false) (Begins (g.P.Probing.remainder l.parser) k))
