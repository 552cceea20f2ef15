use Rattle.std.proofs.Common.{◌≡◌, ℕ, [], length, Some, sym, ap, ◌∙◌, subst, arith, rules}
use Rattle.parser.specs.Meaning.{Meaning}
use Rattle.queue.specs.Waiting.{room, waiting}
use Rattle.layout.specs.Calling.{Calls, over, standing}
use Rattle.layout.specs.declared.call.Answer.TheVariants.{Closed}
use Rattle.layout.specs.declared.call.Call.TheVariants.{GiveUp}
use Rattle.layout.specs.declared.resolver.Resolver.{Resolver}
use Rattle.whole.specs.Feeding.{Closes}
use Rattle.whole.specs.Whole.{places}
use Rattle.whole.specs.declared.progress.Progress.{Progress}
use Rattle.whole.proofs.Endings.{closes_finished, closes_given_up, closes_unfinished, refused_open}
use Rattle.whole.proofs.sheet_run.conclude.Given as given
use Rattle.whole.proofs.sheet_run.conclude.Goals as goal
use Rattle.whole.proofs.sheet_run.conclude.Goals.{in-Ok+in_ok-tokens-in-Ok, in-Err+in_ok-fault-in-Err}
use Rattle.parser.proofs.Bound.{means}

-- the parser's meaning
abbrev of : (g : given.Over) → g.row.P.Denot → Meaning
of g p = means g.P.Stepping g.P.Probing p

pub returns-then-progress-clause-closes : goal.returns-then-progress-clause-closes
returns-then-progress-clause-closes g c = closes_given_up g.met.K.Keeper.laws c.args.end c.args.progress (search rules) c.requires c.give_up.ensures.calls

pub give_up-requires-in-Err : goal.give_up-requires-in-Err
give_up-requires-in-Err g c = refused_open c.in-Err.ensures.writes ∙ c.requires ∙ ap (λ (n : ℕ). Some n) (sym c.in-Err.ensures.ticket)

pub returns-clause-closes : goal.returns-clause-closes
returns-clause-closes g c =
    let r = c.args.resolver.now in
    let z = c.finish.new.resolver in
    let q = c.new-queue.result in
    let t = c.args.ticket.number in
    let enough : room q ≡ places = omega (arith, c.new-queue.ensures.size, ap length c.new-queue.ensures.list) in
    elim c.match-finish.branch [
      | in-Ok+in_ok-tokens-in-Ok w ↦
          subst (λ (x : Resolver g.row.P.Denot). Closes g.K.Keeper.kept (over (of g r.parser) (standing r)) t c.args.end c.args.progress c.match-finish.progress.keeper (standing x)) (sym w.resolver-is)
          (subst (λ (p : Progress g.row.K.Denot). Closes g.K.Keeper.kept (over (of g r.parser) (standing r)) t c.args.end c.args.progress p.keeper (standing z)) (sym w.progress-is)
          (closes_finished (of g r.parser) (of g z.parser) (standing r) (standing z) t c.args.end (room q) enough (waiting q) (waiting c.finish.new.queue) c.new-queue.ensures.list g.K.Keeper.kept c.args.progress (search rules) w.tokens.new.self w.in-Ok.field-0 w.in-Ok.ensures.writes w.in_ok-tokens-in-Ok.ensures.kept))
      | in-Err+in_ok-fault-in-Err w ↦
          let y = w.give_up-in-Err.new.resolver in
          let x = w.in-Err.ensures.writes in
          let gives = subst (λ (n : ℕ). Calls (over (of g z.parser) (standing z)) (GiveUp n) Closed [] (over (of g y.parser) (standing y))) w.in-Err.ensures.ticket w.give_up-in-Err.ensures.calls in
          subst (λ (x : Resolver g.row.P.Denot). Closes g.K.Keeper.kept (over (of g r.parser) (standing r)) t c.args.end c.args.progress c.match-finish.progress.keeper (standing x)) (sym w.resolver-is)
          (subst (λ (p : Progress g.row.K.Denot). Closes g.K.Keeper.kept (over (of g r.parser) (standing r)) t c.args.end c.args.progress p.keeper (standing y)) (sym w.progress-is)
          (closes_unfinished (of g r.parser) (of g z.parser) (standing r) (standing z) t c.args.end (room q) enough (waiting q) (waiting c.finish.new.queue) c.new-queue.ensures.list g.K.Keeper.kept c.args.progress (search rules) w.fault.new.self (of g y.parser) (standing y) w.in-Err.field-0.fault [] x (refused_open x ∙ c.requires) gives w.in_ok-fault-in-Err.ensures))
    ]
