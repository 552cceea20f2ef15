use Rattle.std.proofs.Common.{◌∙◌, arith, length-set}
use Rattle.parser.specs.Sets.{Begins}
use Rattle.parser.proofs.Flags.{flags_more, flags_first, flags_others}
use Rattle.parser.proofs.expected.expected_kinds.Goals as goal

pub loop-kind-preserved : goal.loop-kind-preserved
loop-kind-preserved g c =
    let inv = c.loop-kind.invariant in (
      length-set _ _ _ ∙ inv.0,
      flags_first c.loop-kind.flags c.loop-kind.kind c.viable.result (omega arith) inv.1,
      flags_more (Begins (g.P.Probing.remainder c.args.parser.now)) c.loop-kind.flags c.loop-kind.kind c.viable.result (omega (arith, inv.0)) inv.2 c.viable.ensures,
    )

pub returns : goal.returns
returns g c =
    let inv = c.loop-kind.invariant in
    record { kinds = λ kind low high. inv.2 kind (omega arith) low; others = flags_others c.loop-kind.flags inv.0 inv.1 }
