use Rattle.std.proofs.Common.{◌≡◌, ap, arith, length}
use Rattle.std.proofs.lemmas.Result.{IfOk-weaker}
use Rattle.parser.specs.Meaning.{Meaning}
use Rattle.queue.specs.Waiting.{room, waiting}
use Rattle.layout.specs.Calling.{standing}
use Rattle.whole.specs.Keeping.{Gains}
use Rattle.whole.specs.Whole.{places}
use Rattle.whole.proofs.Feeds.{one_accepted, one_refused, one_within}
use Rattle.whole.proofs.Gains.{still}
use Rattle.whole.proofs.feeding.feed_one.Given as given
use Rattle.whole.proofs.feeding.feed_one.Goals as goal
use Rattle.parser.proofs.Bound.{means}

-- the parser's meaning
abbrev of : (g : given.Over) → g.row.P.Denot → Meaning
of g p = means g.P.Stepping g.P.Probing p

pub returns-in-Ok-clause-keeps : goal.returns-in-Ok-clause-keeps
returns-in-Ok-clause-keeps g c =
    let r = c.args.resolver.now in
    let r' = c.feed.new.resolver in
    let q = c.new-queue.result in
    let enough : room q ≡ places = omega (arith, c.new-queue.ensures.size, ap length c.new-queue.ensures.list) in
    IfOk-weaker c.tokens.result _ _
    (λ _ e. one_accepted (of g r.parser) (of g r'.parser) (standing r) (standing r') c.args.ticket.now.number c.args.lexeme (room q) enough (waiting q) (waiting c.feed.new.queue) c.new-queue.ensures.list (Gains g.K.Keeper.kept) c.args.progress.now
    (record { keeper = c.tokens.new.self; refused = c.args.progress.now.refused; places = c.tokens.new.queue.places.now }) c.in-Ok.field-0 c.in-Ok.ensures.writes (record { keeper = e; refused = still c.args.progress.now.refused }))
    c.tokens.ensures.kept

pub returns-in-Err-clause-within : goal.returns-in-Err-clause-within
returns-in-Err-clause-within g c =
    let r = c.args.resolver.now in
    let r' = c.feed.new.resolver in
    let q = c.new-queue.result in
    let enough : room q ≡ places = omega (arith, c.new-queue.ensures.size, ap length c.new-queue.ensures.list) in
    one_within (of g r.parser) (of g r'.parser) (standing r) (standing r') c.args.ticket.now.number c.args.lexeme (room q) enough (waiting q) (waiting c.feed.new.queue) c.new-queue.ensures.list _ c.in-Err.ensures.writes

pub returns-in-Err-clause-keeps : goal.returns-in-Err-clause-keeps
returns-in-Err-clause-keeps g c =
    let r = c.args.resolver.now in
    let r' = c.feed.new.resolver in
    let q = c.new-queue.result in
    let enough : room q ≡ places = omega (arith, c.new-queue.ensures.size, ap length c.new-queue.ensures.list) in
    IfOk-weaker c.fault.result _ _
    (λ _ e. one_refused (of g r.parser) (of g r'.parser) (standing r) (standing r') c.args.ticket.now.number c.args.lexeme (room q) enough (waiting q) (waiting c.feed.new.queue) c.new-queue.ensures.list (Gains g.K.Keeper.kept) c.args.progress.now c.fault.new.self c.in-Err.fault c.in-Err.ensures.writes
    (record { keeper = e.keeper; refused = e.refused })) c.fault.ensures
