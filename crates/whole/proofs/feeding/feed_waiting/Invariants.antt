use Rattle.std.proofs.Common.{◌≡◌, length}
use Rattle.parser.specs.Meaning.{Meaning}
use Rattle.queue.specs.Waiting.{capacity, waiting}
use Rattle.layout.specs.Calling.{standing}
use Rattle.whole.specs.Keeping.{Gains}
use Rattle.whole.proofs.Feeds.{Sofar}
use Rattle.whole.proofs.feeding.feed_waiting.Given as goal
use Rattle.parser.proofs.Bound.{means}

-- the parser's meaning
abbrev of : (g : goal.Over) → g.row.P.Denot → Meaning
of g p = means g.P.Stepping g.P.Probing p

abbrev pub invariant-loop-lexeme : goal.invariant-loop-lexeme
invariant-loop-lexeme g l =
    (capacity l.lexemes ≡ capacity l.initial.lexemes)
    × Sofar (Gains g.K.Keeper.kept) (of g l.initial.resolver.parser) (standing l.initial.resolver) l.ticket.number (waiting l.initial.lexemes) l.initial.progress l.progress (of g l.resolver.parser) (standing l.resolver) (waiting l.lexemes)

abbrev pub decreases-loop-lexeme : goal.decreases-loop-lexeme
decreases-loop-lexeme g l = length (waiting l.lexemes)
