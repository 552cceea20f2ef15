use Rattle.std.proofs.Common.{◌++◌, ◌∷◌, [], length, ap, ◌∙◌, arith}
use Rattle.table.proofs.Levels.{ends_fresh}
use Rattle.table.proofs.level.Level.reset.Goals as goal

pub invariant_of-self : goal.invariant_of-self
invariant_of-self c =
    let alone = c.push.ensures.items ∙ ap (λ l. l ++ 16 ∷ []) c.clear.ensures in
    let one = ap length alone in
    record { room = omega arith; ends = ends_fresh alone }
