-- Members of a set, each with a script, and the tests that a played script has to pass.
-- Assumes nothing.
use Rattle.std.proofs.Common.{◌≡◌, ℕ, ◌-◌, ◌≤◌, Bool, true, false, cond, ◌&&◌, ◌||◌, eqb, ltb, leb, List, [], ◌∷◌, ◌++◌, length, get_or, sym, refl, ap, ◌∙◌, subst, ⊎_elim, arith, le-ltb, lt-ltb, eqb-true, leb-true}
use borrow.Author.Tests.{both_ways}
use Rattle.std.specs.List.{list_all}
use Rattle.std.proofs.lemmas.Bool.{and_parts, or_cases, cases_lt, cond-true, cond-false}
use Rattle.std.proofs.lemmas.List.{get_or_past}
use Rattle.grammar.specs.Grammar.{IsKind, Kinds, among}
use Rattle.grammar.specs.Sets.{row}
use Rattle.grammar.proofs.Tests.{below, at_below}

-- a symbol, a kind and the script that shows the one by the other
abbrev pub Witness : Type 0
Witness = ℕ × ℕ × List ℕ

-- the script kept for a symbol and a kind
abbrev pub script : List Witness → ℕ → ℕ → List ℕ
script [] s t = []
script (w ∷ ws) s t = cond (eqb w.0 s && eqb w.1 t) w.2 (script ws s t)

-- where a test passes at all, it passes at each member
pub member : (f : ℕ → Bool) (ts : List ℕ) (t : ℕ) → list_all f ts ≡ true → among t ts ≡ true → f t ≡ true
member f [] t h e = absurd (both_ways false refl e)
member f (s ∷ ts) t h e =
    let parts = and_parts (f s) (list_all f ts) h in
    ⊎_elim
    (λ same. subst (λ k. f k ≡ true) (sym (eqb-true t s same)) parts.0)
    (λ more. member f ts t parts.1 more)
    (or_cases (eqb t s) (among t ts) e)

no_member : (t : ℕ) (ts : List ℕ) → ts ≡ [] → among t ts ≡ true → ⊥
no_member t ts e h = both_ways false refl (subst (λ l. among t l ≡ true) e h)

-- only a nonterminal has members in its row
pub row_high : (rows : List (List ℕ)) (s t : ℕ) → among t (row rows s) ≡ true → 16 ≤ s
row_high rows s t h =
    ⊎_elim
    (λ low. absurd (no_member t (row rows s) (cond-true (ltb s 16) [] (get_or rows (s - 16) []) (lt-ltb s 16 low)) h))
    (λ high. high)
    (cases_lt s 16)

-- a member of one of the ten rows passes the test that all pass
pub row_member : (f : ℕ → ℕ → Bool) (rows : List (List ℕ)) (s t : ℕ) → length rows ≡ 10 → below (λ s. list_all (f s) (row rows s)) 26 ≡ true → among t (row rows s) ≡ true → f s t ≡ true
row_member f rows s t ten passed h =
    ⊎_elim
    (λ inside. member (f s) (row rows s) t (at_below (λ s. list_all (f s) (row rows s)) 26 s passed inside) h)
    (λ past. absurd (no_member t (row rows s) (cond-false (ltb s 16) [] (get_or rows (s - 16) []) (le-ltb s 16 (omega arith)) ∙ get_or_past rows (s - 16) [] (omega arith)) h))
    (cases_lt s 26)

-- the list is empty
abbrev pub is_empty : List ℕ → Bool
is_empty [] = true
is_empty (s ∷ w) = false

pub is_empty_lem : (w : List ℕ) → is_empty w ≡ true → w ≡ []
is_empty_lem [] e = refl
is_empty_lem (s ∷ w) e = absurd (both_ways false refl e)

-- the list begins with t
abbrev pub headed : ℕ → List ℕ → Bool
headed t [] = false
headed t (s ∷ w) = eqb s t

pub is_headed : (t : ℕ) (w : List ℕ) → headed t w ≡ true → (v : List ℕ) × (w ≡ t ∷ v)
is_headed t [] e = absurd (both_ways false refl e)
is_headed t (s ∷ w) e = (w, ap (λ k. k ∷ w) (eqb-true s t e))

-- somewhere in the list t stands right behind a
abbrev pub adjacent : ℕ → ℕ → List ℕ → Bool
adjacent a t [] = false
adjacent a t (r ∷ []) = false
adjacent a t (r ∷ s ∷ w) = (eqb r a && eqb s t) || adjacent a t (s ∷ w)

pub is_adjacent : (a t : ℕ) (w : List ℕ) → adjacent a t w ≡ true → (u v : List ℕ) × (w ≡ u ++ a ∷ t ∷ v)
is_adjacent a t [] e = absurd (both_ways false refl e)
is_adjacent a t (r ∷ []) e = absurd (both_ways false refl e)
is_adjacent a t (r ∷ s ∷ w) e =
    ⊎_elim
    (λ now. let both = and_parts (eqb r a) (eqb s t) now in ([], w, λ i. eqb-true r a both.0 i ∷ eqb-true s t both.1 i ∷ w))
    (λ on. let more = is_adjacent a t (s ∷ w) on in (r ∷ more.0, more.1, ap (λ l. r ∷ l) more.2))
    (or_cases (eqb r a && eqb s t) (adjacent a t (s ∷ w)) e)

-- the symbol is a kind
abbrev pub is_kind : ℕ → Bool
is_kind t = leb 1 t && leb t 15

pub is_kind_lem : (t : ℕ) → is_kind t ≡ true → IsKind t
is_kind_lem t e = let both = and_parts (leb 1 t) (leb t 15) e in (leb-true 1 t both.0, leb-true t 15 both.1)

pub all_kinds_lem : (w : List ℕ) → list_all is_kind w ≡ true → Kinds w
all_kinds_lem [] e = tt
all_kinds_lem (s ∷ w) e =
    let parts = and_parts (is_kind s) (list_all is_kind w) e in
    (is_kind_lem s parts.0, all_kinds_lem w parts.1)
