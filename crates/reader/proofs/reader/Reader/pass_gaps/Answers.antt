use Rattle.std.proofs.Common.{sym, ap, ◌∙◌, arith}
use Rattle.std.proofs.lemmas.List.{take_rest}
use Rattle.reader.specs.Classes.{class, line_end}
use Rattle.reader.specs.Places.{byte, line_end_length}
use Rattle.reader.specs.Reading.{offset_of, text_of}
use Rattle.reader.proofs.Finds.{placed_is}
use Rattle.reader.proofs.Here.{placed_here, small}
use Rattle.reader.proofs.Places.{first_byte}
use Rattle.reader.proofs.Steps.{LinePassed, line_end_passed}
use Rattle.reader.proofs.reader.Reader.pass_gaps.Goals as goal
use Rattle.reader.proofs.reader.Reader.pass_gaps.Goals.{After-line_end_length}

-- the line end that stands here is passed
passed : (c : After-line_end_length) → LinePassed (text_of c.loop-self.self) c.loop-self.self.here (placed_here c.loop-self.self) c.line_end_length.result
passed c =
    let r = c.loop-self.self in
    let rest = take_rest (text_of r) (offset_of r) in
    let is = sym c.in-LineEnd.ensures in
    line_end_passed (text_of r) r.here (placed_here r) (sym (ap (λ bs. class (byte bs 0)) rest ∙ ap class (first_byte (text_of r) (offset_of r))) ∙ is) c.line_end_length.result
    (c.line_end_length.ensures (ap line_end is) ∙ ap line_end_length rest)

pub pass_blank-requires : goal.pass_blank-requires
pass_blank-requires c = let fits = small c.loop-self.self in (fits.offset, (fits.from, fits.to))

pub pass_line_end-requires : goal.pass_line_end-requires
pass_line_end-requires c =
    let r = c.loop-self.self in
    let fits = small r in
    (omega (arith, (passed (goal.at.pass_line_end-requires c).After-line_end_length).0, r.short), omega arith)

pub invariant_of-self-in-LineEnd : goal.invariant_of-self-in-LineEnd
invariant_of-self-in-LineEnd c =
    let r = c.loop-self.self in
    let next = (passed (goal.at.invariant_of-self-in-LineEnd c).After-line_end_length).1 c.pass_line_end.new.self c.pass_line_end.ensures in
    record { short = r.short; within = next.placed.within; spotted = placed_is (text_of r) _ next.placed }

pub loop-self-preserved : goal.loop-self-preserved
loop-self-preserved c =
    let next = (passed (goal.at.loop-self-preserved c).After-line_end_length).1 c.pass_line_end.new.self c.pass_line_end.ensures in
    let before = c.loop-self.invariant in
    record { text = before.text; same = before.same ∙ rw (← before.text) next.same; onward = omega (arith, before.onward, next.further) }
