-- A whole sheet, added up. Assumes nothing.
use Rattle.std.proofs.Common.{◌≡◌, ℕ, ◌+◌, ◌%◌, ◌^◌, List, [], Some, None, Result, sym, ap, ◌∙◌, subst, zero-add, arith}
use Rattle.parser.specs.Meaning.{Meaning}
use Rattle.parser.specs.Sets.{Lists}
use Rattle.sheet.specs.declared.fault.Fault.{Fault}
use Rattle.sheet.specs.declared.lexeme.Token.{Token}
use Rattle.layout.specs.Calling.{over}
use Rattle.layout.specs.Service.{Does, State, begin_open, begin_spent, new}
use Rattle.layout.specs.declared.call.Answer.TheVariants.{Ticket as ticket, Refused as refused}
use Rattle.layout.specs.declared.call.Call.TheVariants.{Begin as begin}
use Rattle.whole.specs.Feeding.{Brings}
use Rattle.whole.specs.Whole.{Yields, begun, end_of, not_begun, told}
use Rattle.speed.specs.Resolved.{Resolved, worth}
use Rattle.speed.specs.Tallies.{Counted}
use Rattle.speed.specs.declared.resolve.Tally.{Tally}

-- a new service can begin a sheet
can_begin : {G : Lists} {reach : ℕ} {s s' : State} {f : Fault} {us : List Token} → s ≡ new 0 → Does G reach s begin (refused f) us s' → ⊥
can_begin e (begin_open {n = n} o) = let was : None ≡ Some n = sym (ap (λ (z : State). z.sheet) e) ∙ o in let z : ◌≡◌ {A = ℕ} 0 1 = cc in omega arith
can_begin e (begin_spent o n) = omega (arith, ap (λ (z : State). z.next) e)

yields_resolved : {G : Lists} {reach : ℕ} {s s' : State} {ts : List Token} {fs : List Fault} {r : Result (List Token) (List Fault)} (text : List ℕ) (sum : ℕ) → s ≡ new 0 → Yields G reach s (told text) (end_of text) ts fs r s' → sum ≡ worth ts fs % 2 ^ 64 → Resolved G reach text sum
yields_resolved text sum is (not_begun d) e = absurd (can_begin is d)
yields_resolved {G} {reach} {r = r} text sum is (begun {s₁ = s₁} {s₂ = s₂} {s₃ = s₃} {t = t} {ts = ts} {fs = fs} d x y) e =
    record {
      number = t;
      opened = s₁;
      fed = s₂;
      left = s₃;
      tokens = ts;
      faults = fs;
      outcome = r;
      begins = subst (λ (v : State). Does G reach v begin (ticket t) [] s₁) is d;
      feeding = x;
      ends = y;
      total = e;
    }

pub resolved : {m : Meaning} {s s' : State} (text : List ℕ) {a b : Tally} → s ≡ new 0 → a.sum ≡ 0 → Brings Counted (over m s) text a b s' → Resolved m.language m.reach text b.sum
resolved text {a} {b} is zero x =
    let w = worth x.tokens x.faults in
    yields_resolved text b.sum is x.yields (x.keeper.sum (omega (arith, zero)) ∙ ap (λ n. (n + w) % 2 ^ 64) zero ∙ ap (λ n. n % 2 ^ 64) (zero-add w))
