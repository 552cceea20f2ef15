use Rattle.layout.proofs.Inserts.{Inserting}
use Rattle.layout.proofs.draft.insert_all.Given as goal
use Rattle.parser.proofs.Bound.{means}

abbrev pub invariant-loop-token : goal.invariant-loop-token
invariant-loop-token g l =
    Inserting l.tokens l.blocks l.initial.drafted
    (means g.P.Stepping g.P.Probing l.initial.parser)
    (means g.P.Stepping g.P.Probing l.parser)
    l.drafted l.token-index
