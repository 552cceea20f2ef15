use Rattle.std.proofs.Common.{◌+◌, ◌*◌, length}
use Rattle.layout.specs.Drafts.{contexts_of}
use Rattle.layout.proofs.Running.{Running, rank}
use Rattle.layout.proofs.lay.lay.Given as goal
use Rattle.parser.proofs.Bound.{means}

abbrev pub invariant-loop-inserted : goal.invariant-loop-inserted
invariant-loop-inserted g l =
    Running l.contexts l.marked.mark l.marked.coming
    (means g.P.Stepping g.P.Probing l.initial.parser) l.draft l.mark
    (means g.P.Stepping g.P.Probing l.parser)

abbrev pub decreases-loop-inserted : goal.decreases-loop-inserted
decreases-loop-inserted g l = 3 * length (contexts_of l.contexts l.draft) + rank l.mark
