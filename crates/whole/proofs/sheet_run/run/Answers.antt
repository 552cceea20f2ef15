use Rattle.std.proofs.lemmas.Result.{IfOk-weaker}
use Rattle.whole.specs.Whole.{readable}
use Rattle.whole.proofs.Endings.{ran}
use Rattle.whole.proofs.sheet_run.run.Goals as goal

pub returns-in-Ok-clause-ran : goal.returns-in-Ok-clause-ran
returns-in-Ok-clause-ran g c =
    let e = c.in-Ok.ensures in
    IfOk-weaker c.conclude.result _ _ (λ k x. ran g.met.K.Keeper.laws (readable c.args.text.now) c.new-progress.ensures.keeper c.new-progress.ensures.refused e.keeps e.place x) c.conclude.ensures.closes
