-- The shape of what is written: braces within the depth limit, and a { first and after each block keyword. Assumes nothing.
use Rattle.std.specs.Prelude.{ℕ, suc, ◌<◌, ◌≤◌, Bool, false, List, [], ◌∷◌, ◌≢◌}
use Rattle.layout.specs.Marks.{opens_block}

-- from a depth and a flag that a { is due, kinds lead to another depth and flag
pub data Path : ℕ → Bool → List ℕ → ℕ → Bool → Type 0 where
  here : {d : ℕ} {b : Bool} → Path d b [] d b
  opens : {d d' : ℕ} {b b' : Bool} {ks : List ℕ} → d < 64 → Path (suc d) false ks d' b' → Path d b (3 ∷ ks) d' b'
  closes : {d d' : ℕ} {b' : Bool} {ks : List ℕ} → Path d false ks d' b' → Path (suc d) false (4 ∷ ks) d' b'
  other : {k d d' : ℕ} {b' : Bool} {ks : List ℕ} → (k ≢ 3) → (k ≢ 4) → 1 ≤ k → k ≤ 15 → Path d (opens_block k) ks d' b' → Path d false (k ∷ ks) d' b'
