use Rattle.table.proofs.Levels.{viable_so}
use Rattle.table.proofs.level.Level.meets.Goals as goal

pub meet-requires : goal.meet-requires
meet-requires c = rw c.deref.ensures.0 c.args.self.now.ends

pub returns : goal.returns
returns c = rw (c.is_some.ensures, ← c.deref.ensures.0) (viable_so c.args.kind c.deref.result.now c.meet.result c.meet.ensures)
