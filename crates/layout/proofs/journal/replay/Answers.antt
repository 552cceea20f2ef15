use Rattle.std.proofs.Common.{sym, arith}
use Rattle.std.proofs.lemmas.List.{take_all, take_more}
use Rattle.parser.proofs.Bound.{means}
use Rattle.parser.proofs.Meanings.{same_sym}
use Rattle.layout.specs.declared.call.Call.TheVariants.{Begin}
use Rattle.layout.proofs.Replaying.{replaying_more, replaying_none}
use Rattle.layout.proofs.SameRuns.{replayed_same}
use Rattle.layout.proofs.journal.replay.Goals as goal

pub loop-call-init : goal.loop-call-init
loop-call-init g c =
    let new = c.new-resolver.ensures in
    replaying_none _ _ _ (means g.P.Stepping g.P.Probing c.args.parser) _ _ _ _ (same_sym new.parser.language) (sym new.parser.reach) new.stands new.parser c.new.ensures.items c.new-2.ensures.items

pub loop-call-preserved : goal.loop-call-preserved
loop-call-preserved g c = rw (take_more c.args.calls.now c.loop-call.call-index Begin (omega arith)) (replaying_more _ _ _ _ _ _ _ _ _ _ _ _ _ c.loop-call.invariant c.in_ok-note.ensures)

pub returns : goal.returns
returns g c =
    let new = c.new-resolver.ensures in
    replayed_same _ _ new.parser.language _ new.parser.reach (rw (take_all c.loop-call.call-index c.args.calls.now (omega arith)) at c.loop-call.invariant.so_far)
