-- The flags of expected kinds, written one after the other.
-- Assumes nothing.
use Rattle.std.proofs.Common.{◌≡◌, ℕ, ◌+◌, ◌<◌, ◌≤◌, Bool, false, ◌≢◌, List, length, get_or, set, Decides, sym, ◌∙◌, subst, ⊎_elim, arith, get_or-set_other, get_or-set_same, below_more}
use Rattle.std.proofs.lemmas.List.{get_or_past}
use Rattle.std.proofs.lemmas.Bool.{cases_lt}
use Rattle.parser.specs.Expected.{flagged}

-- one more flag is written, past the first
pub flags_more : (B : ℕ → Type 0) (flags : List Bool) (i : ℕ) (b : Bool) → i < length flags → ((k : ℕ) → k < i → 1 ≤ k → Decides (get_or flags k false) (B k)) → Decides b (B i) → (k : ℕ) → k < i + 1 → 1 ≤ k → Decides (get_or (set flags i b) k false) (B k)
flags_more B flags i b h old new =
    below_more (λ k. 1 ≤ k → Decides (get_or (set flags i b) k false) (B k)) i
    (λ k lt low. let ne : k ≢ i = omega arith in subst (λ v. Decides v (B k)) (sym (get_or-set_other flags i k b false ne)) (old k lt low))
    (λ low. subst (λ v. Decides v (B i)) (sym (get_or-set_same flags i b false h)) new)

-- the first stays as it is
pub flags_first : (flags : List Bool) (i : ℕ) (b : Bool) → 1 ≤ i → get_or flags 0 false ≡ false → get_or (set flags i b) 0 false ≡ false
flags_first flags i b low e = let ne : 0 ≢ i = omega arith in get_or-set_other flags i 0 b false ne ∙ e

-- none is flagged but the fifteen
pub flags_others : (flags : List Bool) → length flags ≡ 16 → get_or flags 0 false ≡ false → (kind : ℕ) → (1 ≤ kind → kind ≤ 15 → ⊥) → flagged flags kind ≡ false
flags_others flags long none kind out =
    ⊎_elim
    (λ low. let e : 0 ≡ kind = omega arith in subst (λ k. get_or flags k false ≡ false) e none)
    (λ some. get_or_past flags kind false (⊎_elim (λ inside. absurd (out some (omega arith))) (λ past. omega arith) (cases_lt kind 16)))
    (cases_lt kind 1)
