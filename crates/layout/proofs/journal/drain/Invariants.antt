use Rattle.std.proofs.Common.{◌≡◌, ◌++◌, length, vec_items}
use Rattle.queue.specs.Waiting.{SamePlaces, waiting}
use Rattle.layout.proofs.journal.drain.Given as goal

abbrev pub invariant-loop-token : goal.invariant-loop-token
invariant-loop-token l = record { kept : vec_items l.tokens ++ waiting l.queue ≡ vec_items l.initial.tokens ++ waiting l.initial.queue; places : SamePlaces l.initial.queue l.queue }

abbrev pub decreases-loop-token : goal.decreases-loop-token
decreases-loop-token l = length (waiting l.queue)
