use Rattle.std.proofs.Common.{◌≡◌, [], ◌++◌, take, vec_items, sym, ap, ◌∙◌, arith}
use Rattle.std.proofs.lemmas.List.{append-nil, take_all}
use Rattle.std.proofs.lemmas.Result.{on_ok_weaker}
use Rattle.queue.specs.Waiting.{waiting}
use Rattle.whole.specs.Kept.{Holds}
use Rattle.whole.proofs.kept.keeping.KeptKeeper.tokens.Goals as goal

pub returns-clause-kept : goal.returns-clause-kept
returns-clause-kept c =
    let k = c.args.self.now in
    let faults : vec_items k.faults ≡ take 256 (vec_items k.faults ++ []) = sym (take_all 256 _ (omega (arith, k.few, k.faults.ok.0))) ∙ ap (take 256) (sym (append-nil _)) in
    on_ok_weaker {Q = Holds k (waiting c.args.queue.now) [] _} _ (λ drained. record { tokens = drained; faults = faults }) c.drain.ensures.kept
