use Rattle.std.proofs.Common.{refl}
use Rattle.whole.specs.Whole.{readable}
use Rattle.speed.proofs.Resolving.{resolved}
use Rattle.speed.proofs.resolve.resolve.Goals as goal

pub returns : goal.returns
returns g c = resolved (readable c.args.text.now) c.requires refl c.in-Ok.ensures.brings
