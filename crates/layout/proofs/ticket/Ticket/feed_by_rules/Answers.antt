use Rattle.std.proofs.Common.{arith}
use Rattle.layout.proofs.Answered.{fed_denied, fed_room, fed_writes}
use Rattle.layout.proofs.ticket.Ticket.feed_by_rules.Goals as goal

pub write-requires : goal.write-requires
write-requires g c = omega (arith, fed_room c.args.resolver.now c.in-Ok.ensures, c.free.ensures)

pub returns-in-Ok-clause-writes : goal.returns-in-Ok-clause-writes
returns-in-Ok-clause-writes g c = fed_writes c.args.resolver.now (rw c.free.ensures at c.in-Ok.ensures) c.write.ensures.list c.write.ensures.count

pub returns-in-Err-clause-writes : goal.returns-in-Err-clause-writes
returns-in-Err-clause-writes g c = fed_denied c.args.resolver.now (rw c.free.ensures at c.in-Err.ensures) (rw c.place.ensures at c.fault.ensures)
