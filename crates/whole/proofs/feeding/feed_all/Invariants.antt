use Rattle.std.proofs.Common.{◌≡◌, ◌-◌, [], length}
use Rattle.parser.specs.Meaning.{Meaning}
use Rattle.queue.specs.Waiting.{capacity, waiting}
use Rattle.reader.specs.Reading.{offset_of, text_of}
use Rattle.layout.specs.Calling.{standing}
use Rattle.whole.specs.Keeping.{Gains}
use Rattle.whole.specs.Whole.{readable}
use Rattle.whole.proofs.Reading.{Readings}
use Rattle.whole.proofs.feeding.feed_all.Given as goal
use Rattle.parser.proofs.Bound.{means}

-- the parser's meaning
abbrev of : (g : goal.Over) → g.row.P.Denot → Meaning
of g p = means g.P.Stepping g.P.Probing p

abbrev pub invariant-loop-reader : goal.invariant-loop-reader
invariant-loop-reader g l =
    (waiting l.lexemes ≡ [])
    × (capacity l.lexemes ≡ 64)
    × (text_of l.reader ≡ readable l.text)
    × Readings (Gains g.K.Keeper.kept) (of g l.initial.resolver.parser) (standing l.initial.resolver) l.ticket.number (readable l.text) (offset_of l.reader) l.initial.progress l.progress (of g l.resolver.parser) (standing l.resolver)

abbrev pub decreases-loop-reader : goal.decreases-loop-reader
decreases-loop-reader g l = length (text_of l.reader) - offset_of l.reader
