-- Adding up the tokens and the faults of a sheet as they come. Assumes nothing.
use Rattle.std.specs.Prelude.{◌≡◌, ℕ, ◌+◌, ◌%◌, ◌^◌, ◌<◌, List, ◌++◌}
use Rattle.std.proofs.Common.{sym, ap, ◌∙◌, add_assoc, arith}
use Rattle.std.proofs.lemmas.List.Sums.{sum_by-append}
use native.Mathlib.Nat.{mod-add-mod}
use Rattle.sheet.specs.declared.fault.Fault.{Fault}
use Rattle.sheet.specs.declared.lexeme.Token.{Token}
use Rattle.whole.specs.Keeping.{Keeping}
use Rattle.speed.specs.Resolved.{worth}
use Rattle.speed.specs.Sums.{fault_weight, token_weight}
use Rattle.speed.specs.declared.resolve.Tally.{Tally}

-- tokens and faults were added
pub record Counted (a : Tally) (ts : List Token) (fs : List Fault) (b : Tally) : Type 0 where
  pub sum : a.sum < 2 ^ 64 → b.sum ≡ (a.sum + worth ts fs) % 2 ^ 64

-- a sum and then another
sums_on : (a b c x y z : ℕ) → b ≡ (a + x) % 2 ^ 64 → c ≡ (b + y) % 2 ^ 64 → z ≡ x + y → c ≡ (a + z) % 2 ^ 64
sums_on a b c x y z p q e = q ∙ ap (λ n. (n + y) % 2 ^ 64) p ∙ mod-add-mod (a + x) (2 ^ 64) y ∙ ap (λ n. n % 2 ^ 64) (add_assoc a x y ∙ ap (λ n. a + n) (sym e))

-- what is added up is kept as a keeper does
pub counted_keeping : Keeping Counted
counted_keeping =
    record {
      none = λ a. record { sum = λ fits. omega arith };
      on = λ a b c ts us fs gs x y. record {
        sum = λ fits.
            let p = x.sum fits in
            sums_on a.sum b.sum c.sum (worth ts fs) (worth us gs) (worth (ts ++ us) (fs ++ gs)) p (y.sum (omega (arith, p))) (omega (arith, sum_by-append token_weight ts us, sum_by-append fault_weight fs gs));
      };
    }
