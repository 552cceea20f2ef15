-- A test and what it tells: that something holds, or that it does not. Assumes nothing.
use Rattle.std.proofs.Common.{◌≡◌, ℕ, ◌<◌, ◌≤◌, Bool, true, false, not, ◌&&◌, ◌||◌, eqb, ltb, leb, Some, None, Decides, Option, refl, ap, arith}
use mathlib.Core.Bool.{false≢true}
use Rattle.std.proofs.lemmas.Bool.{eq-eqb, eqb-true, le-leb, leb-true, lt-ltb, ltb-true}

-- what the answer of a test for P says
abbrev pub Tells : Bool → Type 0 → Type 0
Tells true P = P
Tells false P = P → ⊥

pub tells : {P : Type 0} (b : Bool) → Decides b P → Tells b P
tells true d = d.0 refl
tells false d = λ p. false≢true (d.1 p)

-- tests of numbers
pub tells_equal : (a b : ℕ) → Tells (eqb a b) (a ≡ b)
tells_equal a b = tells (eqb a b) (eqb-true a b, eq-eqb a b)

pub tells_below : (a b : ℕ) → Tells (ltb a b) (a < b)
tells_below a b = tells (ltb a b) (ltb-true a b, lt-ltb a b)

pub tells_at_most : (a b : ℕ) → Tells (leb a b) (a ≤ b)
tells_at_most a b = tells (leb a b) (leb-true a b, le-leb a b)

-- tests put together
pub tells_both : (P Q : Type 0) (a b : Bool) → Tells a P → Tells b Q → Tells (a && b) (P × Q)
tells_both P Q true true p q = (p, q)
tells_both P Q true false p q = λ x. q x.1
tells_both P Q false b p q = λ x. p x.0

pub tells_not : (P : Type 0) (a : Bool) → Tells a P → Tells (not a) (P → ⊥)
tells_not P true p = λ n. n p
tells_not P false p = p

pub tells_if : (P Q : Type 0) (a b : Bool) → Tells a P → Tells b Q → Tells (not a || b) (P → Q)
tells_if P Q true true p q = λ _. q
tells_if P Q true false p q = λ f. q (f p)
tells_if P Q false b p q = λ x. absurd (p x)

-- what is there, if anything is, has the property
abbrev pub IfAny : {A : Type 0} → (A → Type 0) → Option A → Type 0
IfAny P None = Unit {0}
IfAny P (Some x) = P x

-- the option holds this number
abbrev pub holds? : Option ℕ → ℕ → Bool
holds? None t = false
holds? (Some n) t = eqb n t

pub tells_holds : (o : Option ℕ) (t : ℕ) → Tells (holds? o t) (o ≡ Some t)
tells_holds None t = λ e. let z : ◌≡◌ {A = ℕ} 0 1 = cc in omega arith
tells_holds (Some n) t = by (eqb n t) (tells_equal n t)
  where
    by : (b : Bool) → Tells b (n ≡ t) → Tells b (Some n ≡ Some t)
    by true e = ap Some e
    by false n≢t = λ e. n≢t (cc)
