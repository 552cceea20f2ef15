use Rattle.std.proofs.Common.{◌≡◌, ◌+◌, length, set, refl, arith}
use Rattle.std.proofs.lemmas.List.{length-set}
use Rattle.queue.proofs.Around.{length_around, put_around}
use Rattle.queue.proofs.ring.Queue.fill.Goals as goal

pub invariant_of-self : goal.invariant_of-self
invariant_of-self g c =
    let q = c.args.self.now in
    let ring = set q.places.now c.args.at c.args.x in
    let same : length ring ≡ length q.places.now = length-set _ _ _ in
    record {
      bounded = omega arith;
      inside = omega arith;
      held = omega arith;
      counted = length_around ring q.first (q.count + 1) (omega arith) (omega arith);
    }

pub returns : goal.returns
returns g c =
    let q = c.args.self.now in
    record {
      list = put_around q.places.now q.first q.count (omega arith) c.args.at c.args.x c.requires.some c.requires.behind;
      more = refl {a = q.count + 1};
      places = record { size = length-set q.places.now c.args.at c.args.x; lender = refl {a = q.places.ghost_name} };
    }
