use Rattle.std.proofs.Common.{◌+◌, ◌%◌, ◌^◌, sym, ap, ◌∙◌}
use Rattle.reader.specs.Reading.{offset_of, text_of}
use Rattle.speed.proofs.Added.{at_end, at_stop, of_rest}
use Rattle.speed.proofs.read.speed_read.Goals as goal

pub returns-in-Ok : goal.returns-in-Ok
returns-in-Ok c =
    let read = c.read-answer.ensures in
    let inv = c.loop-stop.invariant in
    at_end c.loop-stop.reader c.loop-stop.queue inv.1 _ read.list c.loop-stop.sum c.take_all-sum.result c.take_all-sum.ensures.value _ (sym c.in-Ok.is ∙ read.answer) ∙ inv.0

pub loop-stop-preserved : goal.loop-stop-preserved
loop-stop-preserved c =
    let read = c.read-answer.ensures in
    let inv = c.loop-stop.invariant in
    let on = at_stop c.loop-stop.reader c.loop-stop.queue inv.1 _ read.list c.loop-stop.sum c.take_all-sum.result c.take_all-sum.ensures.value _ c.weigh-sum.result c.weigh-sum.ensures (sym c.in-Err.is ∙ read.answer) in (
      ap (λ n. ((c.take_all-sum.result + c.weigh-sum.result) % 2 ^ 64 + n) % 2 ^ 64) (ap (λ t. of_rest t (offset_of c.read-answer.new.self)) read.text ∙ ap (of_rest (text_of c.loop-stop.reader)) read.next) ∙ on ∙ inv.0,
      c.take_all-sum.ensures.emptied,
      c.take_all-sum.ensures.places.size ∙ read.places.size ∙ inv.2,
    )
