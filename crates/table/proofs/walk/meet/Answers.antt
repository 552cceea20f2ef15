use Rattle.std.proofs.Common.{arith}
use Rattle.table.proofs.Walks.{here_known, walk_refused, walk_goes_on, walk_finds}
use Rattle.table.proofs.walk.meet.Goals as goal

pub comes_to-requires : goal.comes_to-requires
comes_to-requires c =
    (here_known _ _ c.loop-symbol.invariant c.in-Some.ensures.cases.0, omega arith)

pub returns-in-Rejected : goal.returns-in-Rejected
returns-in-Rejected c k =
    walk_refused _ _ c.loop-symbol.invariant c.in-Some.ensures.cases.0 c.in-Rejected.ensures.means

pub loop-symbol-preserved : goal.loop-symbol-preserved
loop-symbol-preserved c =
    walk_goes_on _ _ c.loop-symbol.invariant c.in-Some.ensures.cases.0 c.in-Vanishes.ensures.means

pub returns-in-Meets : goal.returns-in-Meets
returns-in-Meets c =
    walk_finds _ _ c.loop-symbol.invariant c.in-Some.ensures.cases.0 c.in-Meets.left.now (omega arith, omega arith) c.in-Meets.ensures.means
