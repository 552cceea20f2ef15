use Rattle.std.proofs.Common.{◌≡◌, ◌-◌, ◌<◌, [], length}
use Rattle.queue.specs.Waiting.{capacity, waiting}
use Rattle.reader.specs.Reading.{offset_of, text_of}
use Rattle.lexemes.proofs.write_items.Given as goal

abbrev pub invariant-loop-lexemes : goal.invariant-loop-lexemes
invariant-loop-lexemes g l = (0 < capacity l.queue) × (waiting l.queue ≡ [])

abbrev pub decreases-loop-lexemes : goal.decreases-loop-lexemes
decreases-loop-lexemes g l = length (text_of l.reader) - offset_of l.reader
