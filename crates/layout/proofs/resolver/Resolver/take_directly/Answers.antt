use Rattle.std.proofs.Common.{sym, ◌∙◌}
use Rattle.std.proofs.lemmas.Bool.{false≢true}
use Rattle.layout.proofs.Direct.{direct_spent, direct_taken, direct_unviable}
use Rattle.layout.proofs.resolver.Resolver.take_directly.Goals as goal

pub returns-in-Ok-clause-told : goal.returns-in-Ok-clause-told
returns-in-Ok-clause-told g c free some = let told = c.in-Ok.ensures in direct_taken _ _ _ _ c.requires c.args.self.now.shallow told.0 told.1 told.2 free some

pub returns-in-Err-ReachSpent-clause-told : goal.returns-in-Err-ReachSpent-clause-told
returns-in-Err-ReachSpent-clause-told g c free some =
    let told = rw c.in-Err-ReachSpent.field-0-is at c.in-Err-ReachSpent.ensures in
    direct_spent _ _ _ _ c.requires c.args.self.now.shallow told.0 told.1 told.2 free

pub returns-in-Err-NotViable-2-clause-told : goal.returns-in-Err-NotViable-2-clause-told
returns-in-Err-NotViable-2-clause-told g c free some =
    let told = rw c.in-Err-NotViable.field-0-is at c.in-Err-NotViable.ensures in
    direct_unviable _ _ _ _ c.requires c.args.self.now.shallow told.0 (λ i. false≢true (sym c.if-may_close.false ∙ c.may_close.ensures.1 i)) told.1 free
