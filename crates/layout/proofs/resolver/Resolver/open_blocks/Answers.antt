use Rattle.std.proofs.Common.{◌≡◌, ltb, length, sym, ap, ◌∙◌, arith, rules, tests}
use Rattle.std.specs.List.{filter}
use Rattle.std.proofs.lemmas.Iterator.{YieldsList-from_slice}
use Rattle.std.proofs.lemmas.Iterator.Consumers.{count_from_yields_List, YieldsList-from_filter}
use Rattle.layout.proofs.Stacks.{idle_none, implicit_among_filter, implicit_few, length_stack}
use Rattle.layout.specs.Contexts.{implicit_among, stacked}
use Rattle.layout.proofs.resolver.Resolver.open_blocks.Goals as goal

pub returns : goal.returns
returns g c =
    let r = c.args.self.now in
    let xs = r.contexts.items in
    let all = c.len.ensures.value ∙ sym (length_stack xs (length xs)) in
    let counted : c.count.result ≡ length (filter (ltb 0) xs) = count_from_yields_List c.filter.result _ c.count.ensures.ran (YieldsList-from_filter _ (ltb 0) (YieldsList-from_slice xs cc) c.filter.ensures.closure (λ x r q k. search (rules, tests))) in
    let implicit : c.count.result ≡ implicit_among (stacked xs) = counted ∙ implicit_among_filter xs in
    record {
      all = all;
      implicit = implicit;
      few = omega (arith, all, implicit, implicit_few (stacked xs));
      idle = λ no-sheet. let none = idle_none r.sheet xs r.bare no-sheet in (c.len.ensures.value ∙ ap length none, counted ∙ ap (λ ks. length (filter (ltb 0) ks)) none);
    }
