use Rattle.std.proofs.Common.{◌<◌, length, get_or, take, arith}
use Rattle.std.proofs.lemmas.List.{length-take-le}
use Rattle.parser.specs.Meaning.{Meaning}
use Rattle.parser.specs.Runs.{after}
use Rattle.parser.proofs.Bound.{means}
use Rattle.parser.proofs.Steps.{after_more, refusal_stops, refusal_steps, refusal_none, next_viable, next_left}
use Rattle.parser.proofs.runs.take_all.Given as given
use Rattle.parser.proofs.runs.take_all.Goals as goal

abbrev of : (g : given.Over) → g.row.P.Denot → Meaning
of g = means g.P.Stepping g.P.Probing

pub returns-in-Err : goal.returns-in-Err
returns-in-Err g c =
    let kinds = c.args.kinds.now in
    let i = c.loop-i.i in
    let was = of g c.args.parser.now in
    let before = of g c.loop-i.parser in
    let now = of g c.take.new.self in
    let inside : i < length kinds = omega arith in
    let t = c.in-Err.ensures in
    record {
      within = omega arith;
      paid = c.loop-i.invariant.0;
      steps = refusal_steps (get_or kinds i 0) (after (take i kinds) was) before now c.in-Err.field-0 t c.loop-i.invariant.1;
      stops = λ _. refusal_stops (get_or kinds i 0) before now c.in-Err.field-0 t;
      prefix = λ b enough. absurd (refusal_none (get_or kinds i 0) before now c.in-Err.field-0 t (next_viable kinds i was before inside c.loop-i.invariant.1 b) (next_left kinds i was before inside c.loop-i.invariant.1 enough));
    }

pub loop-i-preserved : goal.loop-i-preserved
loop-i-preserved g c =
    let t = c.in_default.ensures in
    let i = c.loop-i.i in
    let kinds = c.args.kinds.now in
    let long = length-take-le i kinds (omega arith) in
    let fewer = c.loop-i.invariant.1.left in
    let some = t.1 in
    (omega arith, after_more c.args.kinds.now c.loop-i.i (of g c.args.parser.now) (of g c.loop-i.parser) (of g c.take.new.self) (omega arith) c.loop-i.invariant.1 t.2)
