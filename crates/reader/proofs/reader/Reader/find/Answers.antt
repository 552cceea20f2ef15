use Rattle.std.proofs.Common.{◌+◌, ◌<◌, ◌≤◌, [], ◌∷◌, length, Err, sym, ap, ◌∙◌, subst, arith, length-drop}
use Rattle.std.proofs.lemmas.List.{take_rest}
use Rattle.std.proofs.lemmas.Bool.Decides.{nat_tests}
use Rattle.sheet.specs.declared.fault.Reason.TheVariants.{UnreadableByte}
use Rattle.reader.specs.Found.{Begins}
use Rattle.reader.specs.Items.{fault_at, item_of, judged}
use Rattle.reader.specs.Parts.{run_length}
use Rattle.reader.specs.Reading.{offset_of, text_of}
use Rattle.reader.specs.Runs.{front, run, stray}
use Rattle.reader.proofs.Finds.{finds, judged_begins}
use Rattle.reader.proofs.Here.{placed_here, small}
use Rattle.reader.proofs.reader.Reader.find.Goals as goal
use Rattle.reader.proofs.reader.Reader.find.Goals.{After-front_run}

-- the text goes on here
going : (c : After-front_run) → offset_of c.args.self.now < length (text_of c.args.self.now)
going c =
    let r = c.args.self.now in
    let rest = take_rest (text_of r) (offset_of r) in
    let some = c.if-is_empty.ensures in
    grind (arith, nat_tests, ap length rest, length-drop (offset_of r) (text_of r))

-- the run that was found ends inside the text
inside : (c : After-front_run) → offset_of c.args.self.now + run_length c.front_run.result ≤ length (text_of c.args.self.now)
inside c =
    let r = c.args.self.now in
    let rest = take_rest (text_of r) (offset_of r) in
    omega (arith, c.front_run.ensures.within, ap length rest, length-drop (offset_of r) (text_of r), r.within)

pub after_run-requires : goal.after_run-requires
after_run-requires c =
    let r = c.args.self.now in
    let fits = small r in
    let within = inside (goal.at.after_run-requires c).After-front_run in
    let is = ap run_length c.in-Some.is in
    (omega (arith, within, r.short), fits.to)

pub after_run-requires-in-None : goal.after_run-requires-in-None
after_run-requires-in-None c =
    let r = c.args.self.now in
    let fits = small r in
    let within = inside (goal.at.after_run-requires-in-None c).After-front_run in
    let is = ap run_length c.in-None.is in
    (omega (arith, within, r.short), fits.to)

pub returns-in-Some : goal.returns-in-Some
returns-in-Some c =
    let r = c.args.self.now in
    let t = text_of r in
    let i = offset_of r in
    let found = c.in-Some.run' in
    let n = found.length in
    let within = inside (goal.at.returns-in-Some c).After-front_run in
    let is = ap run_length c.in-Some.is in
    finds t r.here (placed_here r) c.requires.no_gap (going (goal.at.returns-in-Some c).After-front_run) (run found.kind n)
    (ap front (sym (take_rest t i)) ∙ c.in-Some.ensures.value)
    (omega arith) c.judge.result
    (ap (λ w. item_of i n w ∷ []) (c.judge.ensures ∙ ap (λ s. judged s found.kind n) r.spotted))
    (subst (Begins i) (sym c.judge.ensures) (judged_begins r.here found.kind n))
    c.after_run.result c.after_run.ensures

pub returns-in-None : goal.returns-in-None
returns-in-None c =
    let r = c.args.self.now in
    let t = text_of r in
    let i = offset_of r in
    let within = inside (goal.at.returns-in-None c).After-front_run in
    let is = ap run_length c.in-None.is in
    finds t r.here (placed_here r) c.requires.no_gap (omega arith) stray
    (ap front (sym (take_rest t i)) ∙ c.in-None.ensures.value)
    (omega arith) (Err c.fault.result)
    (ap (λ f. item_of i 1 (Err f) ∷ []) (c.fault.ensures ∙ ap (λ s. fault_at s UnreadableByte) r.spotted))
    tt c.after_run-in-None.result c.after_run-in-None.ensures
