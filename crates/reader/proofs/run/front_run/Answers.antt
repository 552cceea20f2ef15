use Rattle.std.proofs.Common.{arith}
use Rattle.std.proofs.lemmas.Grind.{common_steps}
use Rattle.reader.specs.Classes.{in_name}
use Rattle.reader.proofs.run.front_run.Goals as goal

pub returns-in-Letter-clause-value : goal.returns-in-Letter-clause-value
returns-in-Letter-clause-value c =
    let long = c.front_length-length.ensures.value in_name (λ k r e. e.1) in
    grind (arith, common_steps)
