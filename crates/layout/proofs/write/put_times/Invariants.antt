use Rattle.layout.proofs.Queues.{Putting}
use Rattle.layout.proofs.write.put_times.Given as goal

abbrev pub invariant-loop : goal.invariant-loop
invariant-loop l = Putting l.initial.queue l.queue l.token l.counter
