use Rattle.std.proofs.Common.{arith}
use Rattle.layout.proofs.Answered.{finished_denied, finished_room, finished_writes}
use Rattle.layout.proofs.ticket.Ticket.finish.Goals as goal

pub write-requires : goal.write-requires
write-requires g c = omega (arith, finished_room c.args.resolver.now c.in-Ok.ensures, c.free.ensures)

pub returns-in-Ok-clause-writes : goal.returns-in-Ok-clause-writes
returns-in-Ok-clause-writes g c = finished_writes c.args.resolver.now (rw c.free.ensures at c.in-Ok.ensures) c.write.ensures.list c.write.ensures.count

pub returns-in-Err-clause-writes : goal.returns-in-Err-clause-writes
returns-in-Err-clause-writes g c = finished_denied c.args.resolver.now (rw c.free.ensures at c.in-Err.ensures) c.fault.ensures
