use Rattle.std.proofs.Common.{length, reverse, refl, ap, ◌∙◌, arith}
use Rattle.arrayvec.proofs.ArrayVecLemmas.{items-with_items}
use Rattle.table.proofs.Levels.{ends_same}
use Rattle.table.proofs.level.Level.copy.Goals as goal

pub invariant_of-self : goal.invariant_of-self
invariant_of-self c =
    let other = c.args.other.now in
    let same = items-with_items c.lay.new.symbols c.write_over.new.symbols (c.write_over.auto.symbols ∙ ap length c.as_mut_slice.ensures.value) ∙ c.write_over.ensures ∙ c.deref-2.ensures.0 in
    let long = ap length same in
    let room = other.room in
    record { room = omega arith; ends = ends_same same other.ends }

pub returns : goal.returns
returns c =
    let same = items-with_items c.lay.new.symbols c.write_over.new.symbols (c.write_over.auto.symbols ∙ ap length c.as_mut_slice.ensures.value) ∙ c.write_over.ensures ∙ c.deref-2.ensures.0 in
    record { stack = ap reverse same; left = refl }
