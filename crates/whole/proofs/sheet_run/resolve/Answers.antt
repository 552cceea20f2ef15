use Rattle.std.proofs.Common.{◌≡◌, ℕ, List, [], cond, length, true, is_ok, nat_le, sym, ap, ◌∙◌, subst}
use Rattle.parser.specs.Meaning.{Meaning}
use Rattle.layout.specs.Calling.{over, standing}
use Rattle.whole.specs.Feeding.{Comes}
use Rattle.whole.specs.Whole.{outcome}
use Rattle.whole.proofs.Sheets.{comes_kept, lawful}
use Rattle.whole.proofs.sheet_run.resolve.Given as given
use Rattle.whole.proofs.sheet_run.resolve.Goals as goal
use Rattle.parser.proofs.Bound.{means}

-- the parser's meaning
abbrev of : (g : given.Over) → g.row.P.Denot → Meaning
of g p = means g.P.Stepping g.P.Probing p

-- the outcome that was kept, of a text that is short enough
came : (g : given.Over) (c : goal.After-outcome g) → Comes (over (of g c.args.resolver.now.parser) (standing c.args.resolver.now)) c.args.text.now (outcome c.outcome.result) (standing c.resolve_with.new.resolver)
came g c =
    let text = c.args.text.now in
    let r = c.args.resolver.now in
    let short : nat_le (length text) 65535 ≡ true = sym c.check.ensures ∙ ap is_ok c.in_ok-check.was in
    subst (λ (t : List ℕ). Comes (over (of g r.parser) (standing r)) t (outcome c.outcome.result) (standing c.resolve_with.new.resolver)) (ap (λ b. cond b text []) short)
    (comes_kept (outcome c.outcome.result) c.new.ensures.tokens c.new.ensures.faults c.in_ok-kept.ensures.brings c.outcome.ensures)

pub returns-clause-comes : goal.returns-clause-comes
returns-clause-comes g c = came g c

pub returns-clause-law : goal.returns-clause-law
returns-clause-law g c =
    let r = c.args.resolver.now in
    lawful (g.P.Stepping.language r.parser) (g.P.Stepping.reach r.parser) c.args.text.now (outcome c.outcome.result) (came g c).whole
