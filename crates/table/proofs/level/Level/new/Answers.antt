use Rattle.std.proofs.Common.{◌++◌, ◌∷◌, [], length, ap, ◌∙◌, arith}
use Rattle.table.proofs.Levels.{ends_fresh}
use Rattle.table.proofs.level.Level.new.Goals as goal

pub invariant_of-result : goal.invariant_of-result
invariant_of-result c =
    let alone = c.push.ensures.items ∙ ap (λ l. l ++ 16 ∷ []) c.new-symbols.ensures in
    let one = ap length alone in
    record { room = omega arith; ends = ends_fresh alone }
