use Rattle.layout.proofs.Moving.{moved_back, moved_on}
use Rattle.layout.proofs.resolver.Resolver.advance.Goals as goal

pub returns-in-Ok-clause-told : goal.returns-in-Ok-clause-told
returns-in-Ok-clause-told g c = rw c.in-Ok.is (moved_on _ _ _ _ _ _ _ _ c.mark.ensures _ c.in-Ok.ensures.told c.keep.ensures)

pub returns-in-Err-clause-told : goal.returns-in-Err-clause-told
returns-in-Err-clause-told g c = rw c.in-Err.is (moved_back _ _ _ _ _ _ _ _ c.mark.ensures _ c.in-Err.ensures.told c.back.ensures)
