use Rattle.std.proofs.Common.{◌≡◌, ℕ, ◌≤◌, List, [], ◌∷◌, ◌++◌, length, take, None, Some, sym, ap, ◌∙◌, arith, length-append}
use Rattle.layout.specs.Contexts.{rises, stack, stacked}
use Rattle.layout.specs.Drafts.{contexts_of, with_opened}
use Rattle.layout.specs.declared.draft.Draft.{Draft}
use Rattle.layout.proofs.Stacks.{idle_open, length_stack, stacked_push, stacked_take}
use Rattle.layout.proofs.resolver.Resolver.settle.Goals as goal

module _ (cs xs : List ℕ) (d : Draft) (within : d.depth ≤ length cs) (kept : xs ≡ take d.depth cs) where
  -- without a context that was opened
  closed : d.opened ≡ None → stacked xs ≡ contexts_of cs d
  closed e = ap stacked kept ∙ stacked_take cs d.depth within ∙ ap (λ o. with_opened o (stack cs d.depth)) (sym e)

  -- with it
  opened : (k : ℕ) → d.opened ≡ Some k → stacked (xs ++ k ∷ []) ≡ contexts_of cs d
  opened k e = stacked_push xs k ∙ ap (λ ks. k ∷ ks) (ap stacked kept ∙ stacked_take cs d.depth within) ∙ ap (λ o. with_opened o (stack cs d.depth)) (sym e)

-- as many as they stand
long : (xs ks : List ℕ) → stacked xs ≡ ks → length xs ≡ length ks
long xs ks e = sym (length_stack xs (length xs)) ∙ ap length e

pub push-requires : goal.push-requires
push-requires g c =
    let xs = c.truncate.new.self.items in
    omega (arith, c.requires.room, long (xs ++ c.in-Some.context ∷ []) _ (opened _ xs c.args.draft c.requires.within c.truncate.ensures.items c.in-Some.context c.in-Some.is), length-append xs (c.in-Some.context ∷ []))

pub returns-in-Some-clause-contexts : goal.returns-in-Some-clause-contexts
returns-in-Some-clause-contexts g c = ap stacked c.push.ensures.items ∙ opened _ _ c.args.draft c.requires.within c.truncate.ensures.items c.in-Some.context c.in-Some.is

pub returns-in_default-clause-contexts : goal.returns-in_default-clause-contexts
returns-in_default-clause-contexts g c = closed _ _ c.args.draft c.requires.within c.truncate.ensures.items c.in_default.is

pub invariant_of-self : goal.invariant_of-self
invariant_of-self g c =
    let so = ap stacked c.push.ensures.items ∙ opened _ _ c.args.draft c.requires.within c.truncate.ensures.items c.in-Some.context c.in-Some.is in
    record { shallow = omega (arith, c.requires.room, long c.push.new.self.items _ so); rising = ap rises so ∙ c.requires.rising; bare = idle_open _ _ c.requires.sheet }

pub invariant_of-self-in_default : goal.invariant_of-self-in_default
invariant_of-self-in_default g c =
    let so = closed _ _ c.args.draft c.requires.within c.truncate.ensures.items c.in_default.is in
    record { shallow = omega (arith, c.requires.room, long c.truncate.new.self.items _ so); rising = ap rises so ∙ c.requires.rising; bare = idle_open _ _ c.requires.sheet }
