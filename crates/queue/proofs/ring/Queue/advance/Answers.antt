use Rattle.std.proofs.Common.{◌-◌, ◌<◌, length, refl, arith}
use Rattle.queue.proofs.Around.{onward_inside, length_around, take_around}
use Rattle.queue.proofs.ring.Queue.advance.Goals as goal

pub invariant_of-self-clause-counted : goal.invariant_of-self-clause-counted
invariant_of-self-clause-counted g c =
    let q = c.args.self.now in
    let ring = q.places.now in
    let inside : c.args.next < length ring = onward_inside (length ring) q.first 1 c.args.next (omega arith) (omega arith) c.requires.behind in
    length_around ring c.args.next (q.count - 1) inside (omega arith)

pub returns : goal.returns
returns g c =
    let q = c.args.self.now in
    record {
      list = λ d. take_around q.places.now q.first q.count (omega arith) c.args.next d c.requires.some q.held c.requires.behind;
      less = omega arith;
      places = record { size = refl {a = length q.places.now}; lender = refl {a = q.places.ghost_name} };
    }
