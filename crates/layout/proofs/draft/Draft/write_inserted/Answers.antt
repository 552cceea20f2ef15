use Rattle.std.proofs.Common.{◌++◌, replicate, sym, ap, ◌∙◌, arith}
use Rattle.queue.specs.Waiting.{waiting}
use Rattle.layout.proofs.Written.{count_tokens, four_behind, inserted_parts}
use Rattle.layout.proofs.draft.Draft.write_inserted.Goals as goal

pub put_times-requires-4 : goal.put_times-requires-4
put_times-requires-4 c = omega (arith, c.requires, count_tokens c.args.self, c.from.ensures, c.put_times.ensures.left, c.put_times-2.ensures.left, c.put_times-3.ensures.left, c.from-2.ensures)

pub returns-clause-list : goal.returns-clause-list
returns-clause-list c =
    let w = waiting c.args.queue.now in
    four_behind w _ _ _ _ _ _ _ _ (c.put_times.ensures.list ∙ (λ i. w ++ replicate (c.from.ensures i) (c.inserted.ensures i)))
    (c.put_times-2.ensures.list ∙ ap (λ t. waiting c.put_times.new.queue ++ replicate c.args.self.closes t) c.inserted-close.ensures)
    (c.put_times-3.ensures.list ∙ (λ i. waiting c.put_times-2.new.queue ++ replicate (c.from-2.ensures i) (c.inserted-2.ensures i)))
    (c.put_times-4.ensures.list ∙ ap (λ t. waiting c.put_times-3.new.queue ++ replicate c.args.self.closes_after t) c.inserted-close.ensures)
    ∙ ap (λ x. w ++ x) (sym (inserted_parts c.args.coming.now c.args.self))

pub returns-clause-left : goal.returns-clause-left
returns-clause-left c = omega (arith, count_tokens c.args.self, c.from.ensures, c.from-2.ensures, c.put_times.ensures.left, c.put_times-2.ensures.left, c.put_times-3.ensures.left, c.put_times-4.ensures.left)
