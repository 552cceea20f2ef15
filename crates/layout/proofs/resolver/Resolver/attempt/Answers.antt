use Rattle.std.proofs.Common.{Err, sym, ap, ◌∙◌, arith}
use Rattle.std.proofs.lemmas.Result.{err_from_is_err_and}
use Rattle.std.proofs.lemmas.Bool.{false≢true}
use Rattle.layout.proofs.Moving.{attempt_fits, attempt_no_room, attempt_not_whole, attempt_stopped}
use Rattle.layout.proofs.resolver.Resolver.attempt.Goals as goal

pub returns-in_err-draft-clause-told : goal.returns-in_err-draft-clause-told
returns-in_err-draft-clause-told g c =
    let turned = err_from_is_err_and c.from_residual.result c.from_residual.ensures.1 in
    rw (turned.1 ∙ ap Err turned.2) (attempt_stopped _ _ _ _ _ _ _ (rw c.as_slice.ensures.value at c.in_err-draft.ensures))

pub returns-then-not-is_whole-clause-told : goal.returns-then-not-is_whole-clause-told
returns-then-not-is_whole-clause-told g c = attempt_not_whole _ _ _ _ _ _ _ (rw c.as_slice.ensures.value at c.in_ok-draft.ensures) (λ w. false≢true (sym c.if-not-is_whole.true ∙ c.is_whole.ensures.1 w))

pub returns-then-free-count-clause-told : goal.returns-then-free-count-clause-told
returns-then-free-count-clause-told g c =
    attempt_no_room _ _ _ _ _ _ _ (rw c.as_slice.ensures.value at c.in_ok-draft.ensures) (c.is_whole.ensures.0 c.if-not-is_whole.false) (omega (arith, c.count.ensures, c.if-free-count.true))

pub returns-clause-told : goal.returns-clause-told
returns-clause-told g c =
    attempt_fits _ _ _ _ _ _ _ (rw c.as_slice.ensures.value at c.in_ok-draft.ensures) (c.is_whole.ensures.0 c.if-not-is_whole.false) (omega (arith, c.count.ensures, c.if-free-count.false))
