use Rattle.std.proofs.Common.{Err, sym, ap, ◌∙◌}
use Rattle.std.proofs.lemmas.Result.{err_from_is_err_and}
use Rattle.std.proofs.lemmas.Bool.{false≢true}
use Rattle.layout.specs.Calling.{shut}
use Rattle.layout.proofs.Sheets.{beside_standing, finished_accepted, finished_refused, finished_wrong}
use Rattle.layout.proofs.resolver.Resolver.finish_sheet.Goals as goal

pub returns-then-not-is_open : goal.returns-then-not-is_open
returns-then-not-is_open g c = finished_wrong (λ e. false≢true (sym c.if-not-is_open.true ∙ c.is_open.ensures.1 e))

pub returns-in_err-draft : goal.returns-in_err-draft
returns-in_err-draft g c =
    let turned = err_from_is_err_and c.from_residual.result c.from_residual.ensures.1 in
    let marked = c.end-marked.ensures in
    rw (turned.1 ∙ ap Err turned.2) (finished_refused c.args.self.now (c.is_open.ensures.0 c.if-not-is_open.false) (beside_standing _ _ c.advance.ensures.beside) marked.mark marked.coming c.in_err-draft.ensures.told)

pub returns : goal.returns
returns g c =
    let marked = c.end-marked.ensures in
    rw c.close.ensures.parser
    (finished_accepted c.args.self.now (c.is_open.ensures.0 c.if-not-is_open.false) (c.close.ensures.standing ∙ ap shut (beside_standing _ _ c.advance.ensures.beside)) marked.mark marked.coming c.in_ok-draft.ensures.told)
