-- How far a run reaches. Assumes nothing.
use Rattle.std.proofs.Common.{◌≡◌, ℕ, ◌<◌, ◌≤◌, Bool, true, cond, List, [], ◌∷◌, length, refl, ap, arith}
use Rattle.std.specs.List.{prefix_len}
use Rattle.std.proofs.lemmas.List.Sums.{prefix_len-le-length, prefix_len_passes}
use Rattle.reader.specs.Classes.{class}
use Rattle.reader.specs.Places.{byte}
use Rattle.reader.specs.Runs.{fronts}
use Rattle.reader.specs.declared.class.Class.{Class}

module _ (p : Class → Bool) where
  -- the library counts them by its own word
  pub fronts_is : (bs : List ℕ) → fronts p bs ≡ prefix_len (λ b. p (class b)) bs
  fronts_is [] = refl
  fronts_is (b ∷ bs) = let ih = fronts_is bs in ap (λ n. cond (p (class b)) n 0) (omega arith)

  pub fronts_le : (bs : List ℕ) → fronts p bs ≤ length bs
  fronts_le bs = omega (arith, fronts_is bs, prefix_len-le-length (λ b. p (class b)) bs)

  -- the bytes that pass a test at the front do pass it
  pub fronts_pass : (bs : List ℕ) (j : ℕ) → j < fronts p bs → p (class (byte bs j)) ≡ true
  fronts_pass bs j h = prefix_len_passes (λ b. p (class b)) bs j 0 (omega (arith, fronts_is bs))
