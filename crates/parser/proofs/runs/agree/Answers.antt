use Rattle.std.proofs.Common.{◌≡◌, ◌+◌, false, [], get_or, drop, sym, refl, subst, arith}
use borrow.Author.Tests.{both_ways}
use Rattle.std.proofs.lemmas.List.{drop_more, drop_all}
use Rattle.parser.specs.Meaning.{Meaning, Alike}
use Rattle.parser.specs.Runs.{Agree, Answers, Made, next}
use Rattle.parser.specs.declared.runs.Call.TheVariants.{Viable}
use Rattle.parser.proofs.Bound.{means}
use Rattle.parser.proofs.ForEver.{for_ever, agree_back, agree_on, stay_alike, made_on, made_apart, not_agreed, not_alike}
use Rattle.parser.proofs.Meanings.{alike_refl}
use Rattle.parser.proofs.runs.agree.Given as given
use Rattle.parser.proofs.runs.agree.Goals as goal

abbrev left : (g : given.Over) → g.row.P.Denot → Meaning
left g = means g.P.Stepping g.P.Probing

abbrev right : (g : given.Over) → g.row.Q.Denot → Meaning
right g = means g.Q.Stepping g.Q.Probing

pub returns-then-not-same : goal.returns-then-not-same
returns-then-not-same g c =
    let calls = c.args.calls.now in
    let i = c.loop-call.call-index in
    let call = get_or calls i (Viable 0) in
    let m = left g c.loop-call.one in
    let n = right g c.loop-call.other in
    let apart : c.perform-first.result ≡ c.perform-second.result → ⊥ = λ e. both_ways false refl (c.if-not-same.ensures.1 e) in
    let cut = drop_more calls i (Viable 0) (omega arith) in
    let told = not_agreed m n call c.perform-first.result c.perform-second.result c.perform-first.ensures.told c.perform-second.ensures.told apart (drop (i + 1) calls) in
    let inv = c.loop-call.invariant in
    let other = not_alike m n call c.perform-first.result c.perform-second.result c.perform-first.ensures.told c.perform-second.ensures.told apart (drop (i + 1) calls) in
    let p = c.perform-first.new.parser in
    let q = c.perform-second.new.parser in
    let made = made_apart m n call c.perform-first.result c.perform-second.result c.perform-first.ensures.told c.perform-second.ensures.told apart (drop (i + 1) calls) (left g p) (right g q) c.perform-first.ensures.means c.perform-second.ensures.means in
    record {
      told = (λ e. absurd (both_ways false refl e), λ a. absurd (told (subst (Agree m n) cut (inv.1 a))));
      made = inv.3 p q (subst (λ cs. Made m n cs (left g p) (right g q)) (sym cut) made);
      alike = λ a. absurd (other (inv.2 a));
      for_ever = λ alike cs. for_ever cs (left g c.args.one.now) (right g c.args.other.now) alike;
    }

pub loop-call-preserved : goal.loop-call-preserved
loop-call-preserved g c =
    let calls = c.args.calls.now in
    let i = c.loop-call.call-index in
    let call = get_or calls i (Viable 0) in
    let a = c.perform-first.result in
    let m = left g c.loop-call.one in
    let n = right g c.loop-call.other in
    let m' = left g c.perform-first.new.parser in
    let n' = right g c.perform-second.new.parser in
    let same : a ≡ c.perform-second.result = c.if-not-same.ensures.0 refl in
    let h = c.perform-first.ensures.told in
    let k : Answers n call a = rw same c.perform-second.ensures.told in
    let to = c.perform-first.ensures.means in
    let on : Alike n' (next call a n) = rw same c.perform-second.ensures.means in
    let cut = drop_more calls i (Viable 0) (omega arith) in
    let inv = c.loop-call.invariant in (
      λ g'. inv.0 (subst (Agree m n) (sym cut) (agree_back m n m' n' call a h k to on (drop (i + 1) calls) g')),
      λ g'. agree_on m n m' n' call a h k to on (drop (i + 1) calls) (subst (Agree m n) cut (inv.1 g')),
      λ alike. stay_alike m n m' n' call a h k to on (drop (i + 1) calls) (inv.2 alike),
      λ p q f. inv.3 p q (subst (λ cs. Made m n cs (left g p) (right g q)) (sym cut) (made_on m n m' n' call a h k to on (drop (i + 1) calls) (left g p) (right g q) f)),
    )

pub returns : goal.returns
returns g c =
    let calls = c.args.calls.now in
    let m = left g c.loop-call.one in
    let n = right g c.loop-call.other in
    let none = drop_all c.loop-call.call-index calls (omega arith) in
    let inv = c.loop-call.invariant in
    record {
      told = (λ _. inv.0 (subst (Agree m n) (sym none) ([], tt, tt)), λ _. refl);
      made = inv.3 c.loop-call.one c.loop-call.other (subst (λ cs. Made m n cs m n) (sym none) (alike_refl m, alike_refl n));
      alike = λ a. (refl, inv.2 a);
      for_ever = λ alike cs. for_ever cs (left g c.args.one.now) (right g c.args.other.now) alike;
    }
