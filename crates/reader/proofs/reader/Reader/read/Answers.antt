use Rattle.std.proofs.Common.{◌≡◌, Err, sym, refl, ap, ◌∙◌, subst, arith}
use Rattle.std.proofs.lemmas.Result.{err_from_is_err_and}
use Rattle.std.proofs.lemmas.Bool.{ltb-false, ltb-true}
use Rattle.queue.proofs.Laws.{same_places_on}
use Rattle.queue.specs.Waiting.{SamePlaces, waiting}
use Rattle.reader.proofs.Readings.{Put, Sofar, gaps_passed, halted_at_end, halted_at_fault, halted_at_full, one_more}
use Rattle.reader.proofs.reader.Reader.read.Goals as goal
use Rattle.reader.proofs.reader.Reader.read.Goals.{After-pass_gaps, In_ok-found, in-Ok+in_ok-put, in_default-what}

-- the blanks and line ends that stand before the next item are passed
passed : (c : After-pass_gaps) → Sofar c.args.self.now c.args.queue.now c.pass_gaps.new.self c.loop-found.queue c.loop-found.count
passed c = let gaps = c.pass_gaps.ensures in gaps_passed c.loop-found.invariant c.pass_gaps.new.self gaps.text gaps.same gaps.onward

pub returns-in_default : goal.returns-in_default
returns-in_default c =
    let sofar = passed (goal.at.returns-in_default c).After-pass_gaps in
    let out = halted_at_end sofar c.in_default.ensures in
    record { answer = out.answered; list = out.waits; next = out.goes_on; text = sofar.text; forward = out.forward; places = sofar.places }

pub returns-in_err-put : goal.returns-in_err-put
returns-in_err-put c =
    let sofar = passed (goal.at.returns-in_err-put c).After-pass_gaps in
    let refused = c.in_err-put.ensures in
    let out = halted_at_full sofar c.in-Some.found c.in-Some.ensures c.in-Ok.lexeme c.in-Ok.is (omega (arith, ltb-false 0 _ (sym refused.accepts))) in
    let turned = err_from_is_err_and c.from_residual.result c.from_residual.ensures.1 in
    record {
      answer = turned.1 ∙ ap Err turned.2 ∙ out.answered;
      list = refused.list ∙ out.waits;
      next = out.goes_on;
      text = sofar.text;
      forward = λ refused some. out.forward refl some;
      places = same_places_on sofar.places refused.places;
    }

pub returns-in_err-found : goal.returns-in_err-found
returns-in_err-found c =
    let sofar = passed (goal.at.returns-in_err-found c).After-pass_gaps in
    let kept : c.match-found.queue ≡ c.loop-found.queue = elim c.match-found.branch [ in-Ok+in_ok-put w ↦ cc (w.in-Ok.is, c.in_err-found.was) | in_default-what w ↦ w.queue-is ] in
    let out = halted_at_fault sofar c.in-Some.found c.in-Some.ensures c.in_err-found.field-0.0 c.in_err-found.was in
    let turned = err_from_is_err_and c.from_residual-in_err-found.result c.from_residual-in_err-found.ensures.1 in
    record {
      answer = turned.1 ∙ ap Err turned.2 ∙ out.answered;
      list = ap waiting kept ∙ out.waits;
      next = out.goes_on;
      text = sofar.text;
      forward = λ refused some. out.forward refl some;
      places = subst (SamePlaces c.args.queue.now) (sym kept) sofar.places;
    }

-- it was put where the code goes on
put : (c : In_ok-found) → Put c.in-Some.found.what c.loop-found.queue c.match-found.queue
put c =
    elim c.match-found.branch [
      | in-Ok+in_ok-put w ↦
          let done = w.in_ok-put.ensures in
          subst (Put c.in-Some.found.what c.loop-found.queue) (sym w.queue-is)
          (record { lexeme = w.in-Ok.lexeme; is = w.in-Ok.is; list = done.list; free = omega (arith, ltb-true 0 _ (sym done.accepts), done.left); places = done.places })
      | in_default-what w ↦ absurd (w.in_default-what.not-Ok _ c.in_ok-found.was)
    ]

pub loop-found-preserved : goal.loop-found-preserved
loop-found-preserved c =
    let sofar = passed (goal.at.loop-found-preserved c).After-pass_gaps in
    one_more sofar c.in-Some.found c.in-Some.ensures c.match-found.queue (put (goal.at.loop-found-preserved c).In_ok-found) _ refl refl
