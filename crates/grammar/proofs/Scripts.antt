-- A derivation as a script that antt plays: 0 keeps the first symbol, n replaces it by production n, and at the
-- script's end the rest is kept.
-- Assumes nothing.
use Rattle.std.proofs.Common.{◌≡◌, ℕ, zero, suc, Bool, true, false, ◌&&◌, eqb, leb, List, [], ◌∷◌, ◌++◌, length, refl, subst, arith, eqb-true, leb-true}
use borrow.Author.Tests.{both_ways}
use Rattle.std.proofs.lemmas.Bool.{and_parts}
use Rattle.grammar.specs.Grammar.{Grammar, Derives, done, keep, replace, nth}
use Rattle.grammar.proofs.Tests.{numbered}
use Rattle.grammar.proofs.Derivations.{derives_refl}

-- each production that the script names is there, and is one of the symbol that stands first
abbrev pub plays : Grammar → List ℕ → List ℕ → Bool
plays G [] x = true
plays G (zero ∷ script) [] = false
plays G (zero ∷ script) (s ∷ x) = plays G script x
plays G (suc n ∷ script) [] = false
plays G (suc n ∷ script) (s ∷ x) =
    (leb (suc n) (length G) && eqb (nth G (suc n)).left s) && plays G script ((nth G (suc n)).right ++ x)

-- the list that the script comes to
abbrev pub played : Grammar → List ℕ → List ℕ → List ℕ
played G [] x = x
played G (zero ∷ script) [] = []
played G (zero ∷ script) (s ∷ x) = s ∷ played G script x
played G (suc n ∷ script) [] = []
played G (suc n ∷ script) (s ∷ x) = played G script ((nth G (suc n)).right ++ x)

pub play : (G : Grammar) (script x : List ℕ) → plays G script x ≡ true → Derives G x (played G script x)
play G [] x e = derives_refl x
play G (zero ∷ script) [] e = done
play G (zero ∷ script) (s ∷ x) e = keep (play G script x e)
play G (suc n ∷ script) [] e = absurd (both_ways false refl e)
play G (suc n ∷ script) (s ∷ x) e =
    let parts = and_parts (leb (suc n) (length G) && eqb (nth G (suc n)).left s) (plays G script ((nth G (suc n)).right ++ x)) e in
    let both = and_parts (leb (suc n) (length G)) (eqb (nth G (suc n)).left s) parts.0 in
    let there = numbered G (suc n) (omega arith) (leb-true (suc n) (length G) both.0) in
    subst (λ a. Derives G (a ∷ x) (played G script ((nth G (suc n)).right ++ x))) (eqb-true (nth G (suc n)).left s both.1)
    (replace there (play G script ((nth G (suc n)).right ++ x) parts.1))
