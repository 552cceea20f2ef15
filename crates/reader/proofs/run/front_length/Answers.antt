use Rattle.std.proofs.Common.{sym, ◌∙◌, rules, tests, of_calls}
use Rattle.std.proofs.lemmas.Iterator.{YieldsList-from_slice}
use Rattle.std.proofs.lemmas.Iterator.Consumers.{YieldsList-at, count_from_yields_List}
use Rattle.std.proofs.lemmas.Iterator.Search.{YieldsList-from_take_while}
use Rattle.std.proofs.lemmas.List.Folds.{length-prefix_len}
use Rattle.reader.specs.Classes.{class}
use Rattle.reader.proofs.Fronts.{fronts_is}
use Rattle.reader.proofs.run.front_length.Goals as goal

pub returns-clause-value : goal.returns-clause-value
returns-clause-value g c = λ p h.
    count_from_yields_List c.take_while.result _ c.count.ensures.ran
    (YieldsList-from_take_while _ (λ b. p (class b)) (YieldsList-at c.take_while.ensures.source (YieldsList-from_slice c.args.bytes.now c.iter.ensures.rest)) c.take_while.ensures.closure c.take_while.ensures.done (λ x b q k. search (rules, tests, of_calls, h)))
    ∙ length-prefix_len (λ b. p (class b)) c.args.bytes.now ∙ sym (fronts_is p c.args.bytes.now)
