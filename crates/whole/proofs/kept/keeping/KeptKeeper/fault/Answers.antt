use Rattle.std.proofs.Common.{vec_items, sym, ◌∙◌, arith}
use Rattle.std.proofs.lemmas.List.{append-nil, length_push, take_all, take_at}
use Rattle.whole.proofs.kept.keeping.KeptKeeper.fault.Goals as goal

pub returns-in_ok-push : goal.returns-in_ok-push
returns-in_ok-push c =
    let v = c.args.self.now.faults in
    record { tokens = sym (append-nil _); faults = c.in_ok-push.ensures.items ∙ sym (take_all 256 _ (omega (arith, length_push (vec_items v) c.args.fault, v.ok.0, c.len.ensures))) }

pub returns-else-len-lt-MOST_FAULTS : goal.returns-else-len-lt-MOST_FAULTS
returns-else-len-lt-MOST_FAULTS c =
    let k = c.args.self.now in
    record { tokens = sym (append-nil _); faults = sym (take_at (vec_items k.faults) _ 256 (omega (arith, k.few, k.faults.ok.0, c.len.ensures))) }
