use Rattle.std.proofs.Common.{Some, sym, ◌∙◌, []}
use Rattle.layout.specs.Contexts.{stacked}
use Rattle.layout.specs.declared.rule.Before.TheVariants.{Nothing}
use Rattle.layout.proofs.Answered.{begins_new, begins_open, begins_spent}
use Rattle.layout.proofs.Stacks.{idle_none}
use Rattle.layout.proofs.resolver.Resolver.begin.Goals as goal

pub returns-then-is_some : goal.returns-then-is_some
returns-then-is_some g c = begins_open c.args.self.now (sym c.is_some.ensures ∙ c.if-is_some.true) c.fault.ensures

pub returns-in_default : goal.returns-in_default
returns-in_default g c = begins_spent c.args.self.now (sym c.is_some.ensures ∙ c.if-is_some.false) c.in_default.is c.fault-in_default.ensures

pub returns : goal.returns
returns g c =
    let r = c.args.self.now in
    let none = sym c.is_some.ensures ∙ c.if-is_some.false in
    begins_new r none c.in-Some.is c.following-self.ensures.range
    (λ i. record { sheet = Some c.in-Some.number; next = c.following-self.ensures.value i; contexts = stacked (idle_none r.sheet r.contexts.items r.bare none i); before = Nothing; written = [] }) c.start.ensures
