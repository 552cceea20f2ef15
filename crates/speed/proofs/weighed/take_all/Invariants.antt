use Rattle.std.proofs.Common.{◌≡◌, ◌+◌, ◌%◌, ◌^◌, ◌<◌, length, sum_by}
use Rattle.queue.specs.Waiting.{SamePlaces, waiting}
use Rattle.speed.proofs.weighed.take_all.Given as goal

abbrev pub invariant-loop-x : goal.invariant-loop-x
invariant-loop-x g l =
    ((l.sum + sum_by g.T.Weighed.weight (waiting l.queue)) % 2 ^ 64 ≡ (l.initial.before + sum_by g.T.Weighed.weight (waiting l.initial.queue)) % 2 ^ 64)
    × SamePlaces l.initial.queue l.queue
    × (l.sum < 2 ^ 64)

abbrev pub decreases-loop-x : goal.decreases-loop-x
decreases-loop-x g l = length (waiting l.queue)
