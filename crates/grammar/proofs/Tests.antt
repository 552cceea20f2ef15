-- Tests that antt computes, over a range of numbers and over a grammar, and what a passed one says.
-- Assumes nothing.
use Rattle.std.proofs.Common.{◌≡◌, ℕ, zero, suc, ◌+◌, ◌<◌, ◌≤◌, Bool, true, false, ◌&&◌, [], ◌∷◌, length, sym, refl, subst, ⊎_elim, not-suc-le-zero, arith}
use Rattle.std.proofs.lemmas.Bool.{and_parts, cases_order}
use Rattle.grammar.specs.Grammar.{Production, Grammar, Numbered, first, later, nth}

-- where the first test passes, so does the second
abbrev pub implies : Bool → Bool → Bool
implies true b = b
implies false b = true

pub implied : (a b : Bool) → implies a b ≡ true → a ≡ true → b ≡ true
implied true b h e = h
implied false b h e = absurd (subst (λ c. elim c as (λ _. Type 0) [ true ↦ ⊥ | false ↦ Unit {0} ]) e tt)

-- the test passes at every number below n
abbrev pub below : (ℕ → Bool) → ℕ → Bool
below f zero = true
below f (suc n) = f n && below f n

pub at_below : (f : ℕ → Bool) (n k : ℕ) → below f n ≡ true → k < n → f k ≡ true
at_below f zero k h lt = absurd (not-suc-le-zero lt)
at_below f (suc n) k h lt =
    let parts = and_parts (f n) (below f n) h in
    ⊎_elim
    (λ e. subst (λ j. f j ≡ true) (sym e) parts.0)
    (⊎_elim (λ l. at_below f n k parts.1 l) (λ l. absurd (omega arith)))
    (cases_order k n)

-- the test passes at every production and its number, counted on from i
abbrev pub each : (ℕ → Production → Bool) → ℕ → Grammar → Bool
each f i [] = true
each f i (p ∷ G) = f (suc i) p && each f (suc i) G

each_from : (f : ℕ → Production → Bool) (i : ℕ) (G : Grammar) (n : ℕ) (p : Production) → each f i G ≡ true → Numbered G n p → f (i + n) p ≡ true
each_from f i _ _ p h (first {G = G}) =
    let e : suc i ≡ i + 1 = omega arith in
    subst (λ j. f j p ≡ true) e (and_parts (f (suc i) p) (each f (suc i) G) h).0
each_from f i _ _ p h (later {n = n} {q = q} {G = G} d) =
    let e : suc i + n ≡ i + suc n = omega arith in
    subst (λ j. f j p ≡ true) e (each_from f (suc i) G n p (and_parts (f (suc i) q) (each f (suc i) G) h).1 d)

pub at_each : (f : ℕ → Production → Bool) (G : Grammar) {n : ℕ} {p : Production} → each f 0 G ≡ true → Numbered G n p → f n p ≡ true
at_each f G {n} {p} h d = let e : 0 + n ≡ n = omega arith in subst (λ j. f j p ≡ true) e (each_from f 0 G n p h d)

-- a number up to the grammar's length has its production
pub numbered : (G : Grammar) (n : ℕ) → 1 ≤ n → n ≤ length G → Numbered G n (nth G n)
numbered [] zero low high = absurd (not-suc-le-zero low)
numbered [] (suc n) low high = absurd (not-suc-le-zero high)
numbered (p ∷ G) zero low high = absurd (not-suc-le-zero low)
numbered (p ∷ G) (suc zero) low high = first
numbered (p ∷ G) (suc (suc n)) low high = later (numbered G (suc n) (omega arith) (omega arith))

-- numbers are counted from 1
pub numbered_positive : {G : Grammar} {n : ℕ} {p : Production} → Numbered G n p → 1 ≤ n
numbered_positive first = omega arith
numbered_positive (later d) = omega arith

-- the production of a number is the one that stands there
pub numbered_nth : {G : Grammar} {n : ℕ} {p : Production} → Numbered G n p → nth G n ≡ p
numbered_nth first = refl
numbered_nth {p = p} (later {n = n} {q = q} {G = G} d) = behind G n p d (numbered_nth d)
  where
    behind : (H : Grammar) (k : ℕ) (r : Production) → Numbered H k r → nth H k ≡ r → nth (q ∷ H) (suc k) ≡ r
    behind H zero r d e = absurd (not-suc-le-zero (numbered_positive d))
    behind H (suc k) r d e = e
