use Rattle.std.proofs.Common.{◌≡◌, ◌+◌, ◌-◌, ◌%◌, ◌^◌, [], map, length, sum_by}
use Rattle.queue.specs.Waiting.{capacity, waiting}
use Rattle.reader.specs.Items.{items}
use Rattle.reader.specs.Laws.{tell}
use Rattle.reader.specs.Reading.{offset_of, text_of}
use Rattle.speed.specs.Sums.{total, weight}
use Rattle.speed.proofs.read.speed_read.Given as goal

abbrev pub invariant-loop-stop : goal.invariant-loop-stop
invariant-loop-stop l =
    ((l.sum + sum_by weight (map tell (items (text_of l.reader) (offset_of l.reader)))) % 2 ^ 64 ≡ total l.text)
    × (waiting l.queue ≡ [])
    × (capacity l.queue ≡ 64)

abbrev pub decreases-loop-stop : goal.decreases-loop-stop
decreases-loop-stop l = length (text_of l.reader) - offset_of l.reader
