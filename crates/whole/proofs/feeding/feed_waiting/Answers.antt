use Rattle.std.proofs.Common.{refl, ◌∙◌}
use Rattle.parser.specs.Meaning.{Meaning}
use Rattle.queue.specs.Waiting.{waiting}
use Rattle.layout.specs.Calling.{standing}
use Rattle.whole.proofs.Feeds.{sofar_more, sofar_none}
use Rattle.whole.proofs.Gains.{gains_keeping}
use Rattle.whole.proofs.feeding.feed_waiting.Given as given
use Rattle.whole.proofs.feeding.feed_waiting.Goals as goal
use Rattle.parser.proofs.Bound.{means}

-- the parser's meaning
abbrev of : (g : given.Over) → g.row.P.Denot → Meaning
of g p = means g.P.Stepping g.P.Probing p

pub loop-lexeme-init : goal.loop-lexeme-init
loop-lexeme-init g c =
    let r = c.args.resolver.now in
    (refl, sofar_none (gains_keeping g.met.K.Keeper.laws) (of g r.parser) (standing r) c.args.ticket.now.number (waiting c.args.lexemes.now) c.args.progress.now)

pub loop-lexeme-preserved : goal.loop-lexeme-preserved
loop-lexeme-preserved g c =
    let i = c.loop-lexeme.invariant in
    let e = c.in_ok-feed_one.ensures in
    (c.in-Some.ensures.places.size ∙ i.0, sofar_more (gains_keeping g.met.K.Keeper.laws) c.in-Some.lexeme i.1 c.in-Some.ensures.list e.within e.keeps)
