use Rattle.std.proofs.Common.{◌<◌, [], ◌∷◌, ◌++◌, is_ok, refl, ap, ◌∙◌, arith}
use Rattle.queue.specs.Waiting.{room, waiting}
use Rattle.layout.proofs.Answered.{fed_denied, fed_room, fed_writes, feeds_from}
use Rattle.layout.proofs.Queues.{put_list}
use Rattle.layout.proofs.ticket.Ticket.feed.Goals as goal

pub returns-in-Some-Ok-clause-writes : goal.returns-in-Some-Ok-clause-writes
returns-in-Some-Ok-clause-writes g c =
    let q = c.args.queue.now in
    let told = c.put.ensures in
    let one = rw c.free.ensures at (rw c.in-Some-Ok.field-0-is at c.in-Some-Ok.ensures) in
    let some : 0 < room q = omega (arith, fed_room c.args.resolver.now one) in
    fed_writes c.args.resolver.now one (put_list (is_ok c.put.result) (room q) (waiting q) (waiting c.put.new.self) c.from.result told.accepts some told.list ∙ ap (λ x. waiting q ++ x ∷ []) c.from.ensures) refl

pub returns-in-Some-Err-clause-writes : goal.returns-in-Some-Err-clause-writes
returns-in-Some-Err-clause-writes g c = fed_denied c.args.resolver.now (rw c.free.ensures at (rw c.in-Some-Err.field-0-is at c.in-Some-Err.ensures)) (rw c.place.ensures at c.fault.ensures)

pub returns-in-None-clause-writes : goal.returns-in-None-clause-writes
returns-in-None-clause-writes g c = feeds_from c.in-None.ensures.0 c.in-None.ensures.1 c.feed_by_rules.ensures.writes
