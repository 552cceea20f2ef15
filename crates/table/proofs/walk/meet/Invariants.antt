use Rattle.std.proofs.Common.{length}
use Rattle.table.proofs.Walks.{Walking}
use Rattle.table.proofs.walk.meet.Given as goal

abbrev pub invariant-loop-symbol : goal.invariant-loop-symbol
invariant-loop-symbol l = Walking l.kind l.stack l.rest

abbrev pub decreases-loop-symbol : goal.decreases-loop-symbol
decreases-loop-symbol l = length l.rest
