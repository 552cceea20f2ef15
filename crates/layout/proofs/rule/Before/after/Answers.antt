use Rattle.layout.proofs.Befores.{after_no_kind}
use Rattle.layout.proofs.rule.Before.after.Goals as goal

pub returns-in_default-2 : goal.returns-in_default-2
returns-in_default-2 c = after_no_kind c.args.kind c.in_default.ensures
