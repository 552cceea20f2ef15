use Rattle.std.proofs.Common.{[]}
use Rattle.std.proofs.lemmas.Result.{IfOk-weaker}
use Rattle.parser.specs.Meaning.{Meaning}
use Rattle.layout.specs.Calling.{standing}
use Rattle.whole.specs.Whole.{readable}
use Rattle.whole.proofs.Sheets.{begun_open, brings_begun}
use Rattle.whole.proofs.sheet_run.resolve_with.Given as given
use Rattle.whole.proofs.sheet_run.resolve_with.Goals as goal
use Rattle.parser.proofs.Bound.{means}

-- the parser's meaning
abbrev of : (g : given.Over) → g.row.P.Denot → Meaning
of g p = means g.P.Stepping g.P.Probing p

pub run-requires : goal.run-requires
run-requires g c =
    let r = c.args.resolver.now in
    let z = c.begin.new.self in
    begun_open (of g r.parser) (of g z.parser) (standing r) (standing z) c.in-Ok.ticket.number [] c.in-Ok.ensures

pub returns-in-Ok-clause-brings : goal.returns-in-Ok-clause-brings
returns-in-Ok-clause-brings g c =
    let r = c.args.resolver.now in
    let z = c.begin.new.self in
    IfOk-weaker c.run.result _ _ (λ k x. brings_begun (of g r.parser) (of g z.parser) (standing r) (standing z) g.K.Keeper.kept c.in-Ok.ticket.number [] (readable c.args.text.now) c.args.keeper k (standing c.run.new.resolver) c.in-Ok.ensures x) c.run.ensures.ran
