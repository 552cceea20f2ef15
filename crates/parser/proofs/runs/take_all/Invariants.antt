use Rattle.std.proofs.Common.{◌≤◌, take}
use Rattle.parser.specs.Meaning.{Alike}
use Rattle.parser.specs.Runs.{after}
use Rattle.parser.proofs.Bound.{means}
use Rattle.parser.proofs.runs.take_all.Given as goal

-- the kinds before this one are taken, each from one that was left
abbrev pub invariant-loop-i : goal.invariant-loop-i
invariant-loop-i g l =
    let m = means g.P.Stepping g.P.Probing in
    (l.i ≤ g.P.Stepping.left l.initial.parser) × Alike (m l.parser) (after (take l.i l.kinds) (m l.initial.parser))
