-- The table's rule, proved at all of its entries by one test that antt computes, and carried to each entry.
-- Assumes nothing.
use Rattle.std.proofs.Common.{◌≡◌, ℕ, ◌+◌, ◌-◌, ◌≤◌, Bool, true, not, ◌&&◌, ◌||◌, eqb, leb, ◌⊎◌, [], get_or, refl, subst, inl, inr, ⊎_elim, arith, eq-eqb, ne_eqb, eqb-true, leb-true}
use Rattle.std.specs.List.{list_all}
use Rattle.std.proofs.lemmas.Bool.{and_parts, and_from, or_cases, or_left, or_right, not_from_false}
use Rattle.grammar.specs.Grammar.{Production, nth, IsKind, Nullable, CanBegin, CanFollow}
use Rattle.grammar.specs.Sheet.{sheet}
use Rattle.grammar.proofs.Tests.{implies, implied, below, at_below, each, at_each, numbered}
use Rattle.grammar.proofs.Closed.{begins, left_high}
use Rattle.grammar.proofs.SheetSets.{null, begin, follow, closed, vanishes_exact, begins_exact, follow_test}
use Rattle.table.specs.Cells.{cells}
use Rattle.table.specs.Entry.{Predicts, Entry}

-- the test of what it means that a production is for a and t
abbrev fits : ℕ → ℕ → Production → Bool
fits a t p = eqb p.left a && (begins null begin p.right t || (list_all null p.right && follow a t))

-- every production that fits has the number e, and e, unless it is 0, is one that fits
abbrev right : ℕ → ℕ → ℕ → Bool
right a t e =
    each (λ n p. implies (fits a t p) (eqb n e)) 0 sheet && implies (not (eqb e 0)) ((leb 1 e && leb e 20) && fits a t (nth sheet e))

-- the table's entry
abbrev pub cell : ℕ → ℕ → ℕ
cell a t = get_or (get_or cells (a - 16) []) (t - 1) 0

-- a test that passes at every nonterminal and kind passes at each
pub at_cell : (test : ℕ → ℕ → Bool) → below (λ i. below (λ j. test (i + 16) (j + 1)) 15) 10 ≡ true → (a t : ℕ) → 16 ≤ a → a ≤ 25 → IsKind t → test a t ≡ true
at_cell test all a t low high k =
    let i : a - 16 + 16 ≡ a = omega arith in
    let j : t - 1 + 1 ≡ t = omega arith in
    let row = at_below (λ i. below (λ j. test (i + 16) (j + 1)) 15) 10 (a - 16) all (omega arith) in
    let one = at_below (λ j. test (a - 16 + 16) (j + 1)) 15 (t - 1) row (omega arith) in
    subst (λ y. test a y ≡ true) j (subst (λ x. test x (t - 1 + 1) ≡ true) i one)

all_right : below (λ i. below (λ j. right (i + 16) (j + 1) (cell (i + 16) (j + 1))) 15) 10 ≡ true
unfolding null begin follow
all_right = refl

fits_predicts : (a t : ℕ) (p : Production) → IsKind t → (p.left ≡ a) → (CanBegin sheet p.right t ⊎ (Nullable sheet p.right × CanFollow sheet a t)) → fits a t p ≡ true
fits_predicts a t p k same way =
    and_from (eqb p.left a) _ (eq-eqb p.left a same)
    (⊎_elim
    (λ b. or_left (begins null begin p.right t) _ ((begins_exact p.right t k).1 b))
    (λ n. or_right (begins null begin p.right t) _ (and_from (list_all null p.right) (follow a t) ((vanishes_exact p.right).1 n.0) ((follow_test a t).1 n.1)))
    way)

predicts_fits : (a t n : ℕ) → IsKind t → 1 ≤ n → n ≤ 20 → fits a t (nth sheet n) ≡ true → Predicts a t n
predicts_fits a t n k low high e =
    let p = nth sheet n in
    let parts = and_parts (eqb p.left a) (begins null begin p.right t || (list_all null p.right && follow a t)) e in (
      p,
      numbered sheet n low high,
      eqb-true p.left a parts.0,
      ⊎_elim
          (λ b. inl ((begins_exact p.right t k).0 b))
          (λ v. let both = and_parts (list_all null p.right) (follow a t) v in inr ((vanishes_exact p.right).0 both.0, (follow_test a t).0 both.1))
          (or_cases (begins null begin p.right t) (list_all null p.right && follow a t) parts.1),
    )

-- what passes the test is an entry
entry_right : (a t e : ℕ) → IsKind t → right a t e ≡ true → Entry a t e
entry_right a t e k h =
    let parts = and_parts (each (λ n p. implies (fits a t p) (eqb n e)) 0 sheet) _ h in
    record {
      only = λ n q. eqb-true n e (implied (fits a t q.0) (eqb n e) (at_each (λ n p. implies (fits a t p) (eqb n e)) sheet parts.0 q.1) (fits_predicts a t q.0 k q.2 q.3));
      is = λ some.
          let there = implied (not (eqb e 0)) ((leb 1 e && leb e 20) && fits a t (nth sheet e)) parts.1 (not_from_false (eqb e 0) (ne_eqb e 0 some)) in
          let both = and_parts (leb 1 e && leb e 20) (fits a t (nth sheet e)) there in
          let range = and_parts (leb 1 e) (leb e 20) both.0 in
          predicts_fits a t e k (leb-true 1 e range.0) (leb-true e 20 range.1) both.1;
    }

-- the rule at each entry
pub entry_at : (a t : ℕ) → 16 ≤ a → a ≤ 25 → 1 ≤ t → t ≤ 15 → Entry a t (cell a t)
entry_at a t al ah tl th =
    entry_right a t (cell a t) (tl, th) (at_cell (λ a t. right a t (cell a t)) all_right a t al ah (tl, th))

-- no production is for what is no kind, or for a symbol that none has on its left
predicts_kind : (a t n : ℕ) → Predicts a t n → IsKind t
predicts_kind a t n q = ⊎_elim (λ b. b.1) (λ v. v.1.3) q.3

predicts_left : (a t n : ℕ) → Predicts a t n → (16 ≤ a) × (a ≤ 25)
predicts_left a t n q =
    let e = q.2 in
    let low = left_high closed q.1 in
    let high = leb-true q.0.left 25 (at_each (λ n p. leb p.left 25) sheet refl q.1) in
    (omega arith, omega arith)

pub entry_none : (a t : ℕ) → ((16 ≤ a) → (a ≤ 25) → (1 ≤ t) → (t ≤ 15) → ⊥) → Entry a t 0
entry_none a t out =
    record {
      only = λ n q. let l = predicts_left a t n q in let k = predicts_kind a t n q in absurd (out l.0 l.1 k.0 k.1);
      is = λ some. absurd (some refl);
    }
