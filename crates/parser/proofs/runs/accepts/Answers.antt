use Rattle.std.proofs.Common.{take}
use Rattle.parser.specs.Meaning.{Meaning}
use Rattle.parser.proofs.Bound.{means}
use Rattle.parser.proofs.Steps.{accepted, afresh}
use Rattle.parser.proofs.runs.accepts.Given as given
use Rattle.parser.proofs.runs.accepts.Goals as goal

abbrev of : (g : given.Over) → g.row.P.Denot → Meaning
of g = means g.P.Stepping g.P.Probing

pub returns : goal.returns
returns g c =
    let kinds = c.args.kinds.now in
    let r = c.take_all-count.result in
    let was = of g c.args.parser.now in
    let fresh = of g c.start.new.self in
    let last = of g c.take_all-count.new.parser in
    let run = c.take_all-count.ensures in
    record {
      decides = accepted kinds r c.finished-answer.result was fresh last c.start.ensures run.paid run.steps run.prefix c.finished-answer.ensures;
      fresh = afresh (take r kinds) was fresh last (of g c.start-2.new.self) c.start.ensures run.steps c.start-2.ensures;
    }
