use Rattle.std.proofs.Common.{ap, arith}
use mir.Val.{bool_byte}
use Rattle.layout.specs.Contexts.{stack}
use Rattle.layout.proofs.Stacks.{length_stack, opened_length}
use Rattle.layout.proofs.draft.Draft.blocks.Goals as goal

pub returns : goal.returns
returns c cs = omega (arith, opened_length c.args.self.opened (stack cs c.args.self.depth), length_stack cs c.args.self.depth, c.from.ensures, ap bool_byte c.is_some.ensures)
