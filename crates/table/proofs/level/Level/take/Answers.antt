use Rattle.std.proofs.Common.{length, take, reverse, ap, length-append, arith}
use Rattle.std.proofs.lemmas.List.{length-take}
use Rattle.parser.specs.Meaning.{absent}
use Rattle.parser.proofs.Meanings.{alike_refl}
use Rattle.table.specs.Level.{means}
use Rattle.table.proofs.Levels.{met_viable, took, ends_same}
use Rattle.table.proofs.level.Level.take.Goals as goal

pub meet-requires : goal.meet-requires
meet-requires c = rw c.deref.ensures.0 c.args.self.now.ends

pub returns-then-self-eq0 : goal.returns-then-self-eq0
returns-then-self-eq0 c =
    let self = c.args.self.now in
    let found = rw c.deref.ensures.0 at c.in-Some.ensures in
    (met_viable found, c.if-self-eq0.true, alike_refl (means (reverse self.symbols.items) self.left absent))

pub invariant_of-self : goal.invariant_of-self
invariant_of-self c =
    let found = rw c.deref.ensures.0 at c.in-Some.ensures in
    let few = found.few in
    let deeper = found.deeper in
    let room = c.args.self.now.room in
    let some = c.if-self-eq0.false in
    let long = ap length c.lay.ensures in
    record { room = omega (arith, length-append (take c.in-Some.met.below c.args.self.now.symbols.items) c.in-Some.met.left.now, length-take c.in-Some.met.below c.args.self.now.symbols.items); ends = ends_same c.lay.ensures found.ends }

pub returns : goal.returns
returns c =
    let self = c.args.self.now in
    let found = rw c.deref.ensures.0 at c.in-Some.ensures in
    let some = c.if-self-eq0.false in
    (met_viable found, omega arith, took self.left found c.lay.ensures)
