use Rattle.std.proofs.Common.{take, vec_items}
use Rattle.parser.proofs.Bound.{means}
use Rattle.layout.specs.Calling.{standing}
use Rattle.layout.proofs.Replaying.{Replaying}
use Rattle.layout.proofs.journal.replay.Given as goal

abbrev pub invariant-loop-call : goal.invariant-loop-call
invariant-loop-call g l =
    let p = g.P.Stepping in
    Replaying (p.language l.initial.resolver.parser) (p.reach l.initial.resolver.parser) l.first (take l.call-index l.calls) (vec_items l.journal.answers) (vec_items l.journal.tokens)
    (means p g.P.Probing l.resolver.parser) (standing l.resolver)
