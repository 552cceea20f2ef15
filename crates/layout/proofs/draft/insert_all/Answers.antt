use Rattle.std.proofs.Common.{get_or, Err, ap, ◌∙◌}
use Rattle.std.proofs.lemmas.List.{get_or_default}
use Rattle.std.proofs.lemmas.Result.{err_from_is_err_and}
use Rattle.layout.specs.declared.rule.Insert.TheVariants.{Open}
use Rattle.layout.proofs.Inserts.{inserting_all, inserting_more, inserting_stops}
use Rattle.layout.proofs.draft.insert_all.Goals as goal

pub returns : goal.returns
returns g c = inserting_all _ _ _ _ _ _ _ c.loop-token.invariant c.loop-token-test.false

pub returns-in_err-take_token : goal.returns-in_err-take_token
returns-in_err-take_token g c =
    let ts = c.args.tokens.now in
    let i = c.loop-token.token-index in
    let turned = err_from_is_err_and c.from_residual.result c.from_residual.ensures.1 in
    rw (turned.1 ∙ ap Err turned.2)
    (inserting_stops _ _ _ _ _ _ _ _ c.loop-token.invariant c.loop-token-test.true (get_or_default ts i Open (get_or ts i Open) c.loop-token-test.true) _ _ (rw (c.number.ensures ∙ c.kind.ensures) at c.in_err-take_token.ensures))

pub loop-token-preserved : goal.loop-token-preserved
loop-token-preserved g c =
    let ts = c.args.tokens.now in
    let i = c.loop-token.token-index in
    let told = c.with-drafted.ensures in
    inserting_more _ _ _ _ _ _ _ _ c.loop-token.invariant c.loop-token-test.true (get_or_default ts i Open (get_or ts i Open) c.loop-token-test.true) _ _ (rw (c.number.ensures ∙ c.kind.ensures) at c.in_ok-take_token.ensures) told.tokens told.contexts told.row
