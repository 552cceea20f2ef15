use Rattle.std.proofs.Common.{◌≡◌, length}
use Rattle.queue.specs.Waiting.{capacity, waiting}
use Rattle.lexemes.proofs.write_waiting.Given as goal

abbrev pub invariant-loop-lexeme : goal.invariant-loop-lexeme
invariant-loop-lexeme g l = capacity l.queue ≡ capacity l.initial.queue

abbrev pub decreases-loop-lexeme : goal.decreases-loop-lexeme
decreases-loop-lexeme g l = length (waiting l.queue)
