-- Candidate sets that are closed under a grammar: nothing else derives the empty list, begins or follows.
-- Assumes nothing.
use Rattle.std.proofs.Common.{◌≡◌, ℕ, ◌≤◌, Bool, true, false, ◌&&◌, ◌||◌, eqb, leb, ◌⊎◌, List, [], ◌∷◌, ◌++◌, sym, refl, ◌∙◌, inl, inr, ⊎_elim, arith, eq-eqb, le-leb, leb-true}
use borrow.Author.Tests.{both_ways}
use Rattle.std.specs.List.{list_all}
use Rattle.std.proofs.lemmas.List.Folds.{list_all-append}
use Rattle.std.proofs.lemmas.Bool.{and_parts, and_from, or_cases, or_left, or_right}
use Rattle.grammar.specs.Grammar.{Production, Grammar, Numbered, Derives, done, keep, replace, IsKind, IsNonterminal, start, CanFollow}
use Rattle.grammar.proofs.Tests.{implies, implied, below, at_below, each, at_each}

-- a symbol begins with itself, and with what the candidates say
abbrev pub leads : (ℕ → ℕ → Bool) → ℕ → ℕ → Bool
leads begin s t = eqb s t || begin s t

-- t begins the list by the candidates: a symbol leads with t, and those before it are nullable
abbrev pub begins : (ℕ → Bool) → (ℕ → ℕ → Bool) → List ℕ → ℕ → Bool
begins null begin [] t = false
begins null begin (s ∷ x) t = leads begin s t || (null s && begins null begin x t)

-- what begins the rest follows each nonterminal of a right side, and what follows a follows it where the rest is nullable
abbrev pub follows : (ℕ → Bool) → (ℕ → ℕ → Bool) → (ℕ → ℕ → Bool) → ℕ → ℕ → List ℕ → Bool
follows null begin follow a t [] = true
follows null begin follow a t (s ∷ x) =
    implies (leb 16 s) (implies (begins null begin x t) (follow s t) && implies (list_all null x && follow a t) (follow s t)) && follows null begin follow a t x

-- the candidates are closed under the grammar: four tests over all its productions
pub record Closed (G : Grammar) (null : ℕ → Bool) (begin follow : ℕ → ℕ → Bool) : Type 0 where
  pub lefts : each (λ n p. leb 16 p.left) 0 G ≡ true
  pub nulls : each (λ n p. implies (list_all null p.right) (null p.left)) 0 G ≡ true
  pub begun : each (λ n p. below (λ t. implies (begins null begin p.right t) (leads begin p.left t)) 16) 0 G ≡ true
  pub followed : each (λ n p. below (λ t. follows null begin follow p.left t p.right) 16) 0 G ≡ true

-- each nonterminal of the list is followed by what begins the rest
abbrev pub Sound : (ℕ → Bool) → (ℕ → ℕ → Bool) → (ℕ → ℕ → Bool) → List ℕ → Type 0
Sound null begin follow [] = Unit {0}
Sound null begin follow (s ∷ x) =
    (IsNonterminal s → (t : ℕ) → IsKind t → begins null begin x t ≡ true → follow s t ≡ true) × Sound null begin follow x

module _ (null : ℕ → Bool) (begin : ℕ → ℕ → Bool) where
  -- t begins one list after another in the first, or passes it and begins the second
  pub begins_parts : (x y : List ℕ) (t : ℕ) → begins null begin (x ++ y) t ≡ true → (begins null begin x t ≡ true) ⊎ ((list_all null x ≡ true) × (begins null begin y t ≡ true))
  begins_parts [] y t h = inr (refl, h)
  begins_parts (s ∷ x) y t h =
      ⊎_elim
      (λ e. inl (or_left (leads begin s t) (null s && begins null begin x t) e))
      (λ e.
      let parts = and_parts (null s) (begins null begin (x ++ y) t) e in
      ⊎_elim
      (λ i. inl (or_right (leads begin s t) (null s && begins null begin x t) (and_from (null s) (begins null begin x t) parts.0 i)))
      (λ o. inr (and_from (null s) (list_all null x) parts.0 o.0, o.1))
      (begins_parts x y t parts.1))
      (or_cases (leads begin s t) (null s && begins null begin (x ++ y) t) h)

  pub begins_head : (t : ℕ) (w : List ℕ) → begins null begin (t ∷ w) t ≡ true
  begins_head t w = or_left (leads begin t t) (null t && begins null begin w t) (or_left (eqb t t) (begin t t) (eq-eqb t t refl))

  -- t leads the first symbol, or passes it
  begins_lead : (s t : ℕ) (x : List ℕ) → leads begin s t ≡ true → begins null begin (s ∷ x) t ≡ true
  begins_lead s t x e = or_left (leads begin s t) (null s && begins null begin x t) e

  begins_pass : (s t : ℕ) (x : List ℕ) → null s ≡ true → begins null begin x t ≡ true → begins null begin (s ∷ x) t ≡ true
  begins_pass s t x n e = or_right (leads begin s t) (null s && begins null begin x t) (and_from (null s) (begins null begin x t) n e)

module _ {G : Grammar} {null : ℕ → Bool} {begin follow : ℕ → ℕ → Bool} (ok : Closed G null begin follow) where
  pub left_high : {n : ℕ} {p : Production} → Numbered G n p → 16 ≤ p.left
  left_high {p = p} d = leb-true 16 p.left (at_each (λ n p. leb 16 p.left) G ok.lefts d)

  null_closed : {n : ℕ} {p : Production} → Numbered G n p → list_all null p.right ≡ true → null p.left ≡ true
  null_closed {p = p} d e =
      implied (list_all null p.right) (null p.left) (at_each (λ n p. implies (list_all null p.right) (null p.left)) G ok.nulls d) e

  begin_closed : {n : ℕ} {p : Production} (t : ℕ) → Numbered G n p → IsKind t → begins null begin p.right t ≡ true → leads begin p.left t ≡ true
  begin_closed {p = p} t d k e =
      let here = at_each (λ n p. below (λ t. implies (begins null begin p.right t) (leads begin p.left t)) 16) G ok.begun d in
      implied _ _ (at_below (λ t. implies (begins null begin p.right t) (leads begin p.left t)) 16 t here (omega arith)) e

  follow_closed : {n : ℕ} {p : Production} (t : ℕ) → Numbered G n p → IsKind t → follows null begin follow p.left t p.right ≡ true
  follow_closed {p = p} t d k =
      let here = at_each (λ n p. below (λ t. follows null begin follow p.left t p.right) 16) G ok.followed d in
      at_below (λ t. follows null begin follow p.left t p.right) 16 t here (omega arith)

  -- what derives a nullable list is nullable
  pub vanishes_back : {x w : List ℕ} → Derives G x w → list_all null w ≡ true → list_all null x ≡ true
  vanishes_back done e = e
  vanishes_back (keep {s = s} {x = x} {w = w} d) e =
      let parts = and_parts (null s) (list_all null w) e in
      and_from (null s) (list_all null x) parts.0 (vanishes_back d parts.1)
  vanishes_back (replace {p = p} {x = x} n d) e =
      let parts = and_parts (list_all null p.right) (list_all null x) (sym (list_all-append null p.right x) ∙ vanishes_back d e) in
      and_from (null p.left) (list_all null x) (null_closed n parts.0) parts.1

  -- what begins a derived list begins the list that it is derived from
  pub begins_back : {x w : List ℕ} (t : ℕ) → IsKind t → Derives G x w → begins null begin w t ≡ true → begins null begin x t ≡ true
  begins_back t k done e = e
  begins_back t k (keep {s = s} {x = x} {w = w} d) e =
      ⊎_elim
      (λ l. begins_lead null begin s t x l)
      (λ r. let parts = and_parts (null s) (begins null begin w t) r in begins_pass null begin s t x parts.0 (begins_back t k d parts.1))
      (or_cases (leads begin s t) (null s && begins null begin w t) e)
  begins_back t k (replace {p = p} {x = x} n d) e =
      ⊎_elim
      (λ l. begins_lead null begin p.left t x (begin_closed t n k l))
      (λ r. begins_pass null begin p.left t x (null_closed n r.0) r.1)
      (begins_parts null begin p.right x t (begins_back t k d e))

  pub begins_sound : {x w : List ℕ} (t : ℕ) → IsKind t → Derives G x (t ∷ w) → begins null begin x t ≡ true
  begins_sound {w = w} t k d = begins_back t k d (begins_head null begin t w)

  suffix_sound : (a : ℕ) (y x : List ℕ) → ((t : ℕ) → IsKind t → follows null begin follow a t y ≡ true) → ((t : ℕ) → IsKind t → begins null begin x t ≡ true → follow a t ≡ true) → Sound null begin follow x → Sound null begin follow (y ++ x)
  suffix_sound a [] x fits after rest = rest
  suffix_sound a (s ∷ y) x fits after rest = (
    λ high t k e.
        let test = (and_parts _ _ (fits t k)).0 in
        let both = and_parts (implies (begins null begin y t) (follow s t)) (implies (list_all null y && follow a t) (follow s t)) (implied (leb 16 s) _ test (le-leb 16 s high)) in
        ⊎_elim
        (λ l. implied (begins null begin y t) (follow s t) both.0 l)
        (λ r. implied (list_all null y && follow a t) (follow s t) both.1 (and_from (list_all null y) (follow a t) r.0 (after t k r.1)))
        (begins_parts null begin y x t e),
    suffix_sound a y x (λ t k. (and_parts _ _ (fits t k)).1) after rest,
  )

  -- a symbol replaced by a right side keeps what follows right
  pub expand_sound : {n : ℕ} {p : Production} (x : List ℕ) → Numbered G n p → Sound null begin follow (p.left ∷ x) → Sound null begin follow (p.right ++ x)
  expand_sound {p = p} x n s = suffix_sound p.left p.right x (λ t k. follow_closed t n k) (s.0 (left_high n)) s.1

  pub derives_sound : {x w : List ℕ} → Derives G x w → Sound null begin follow x → Sound null begin follow w
  derives_sound done s = s
  derives_sound (keep d) s = (λ high t k e. s.0 high t k (begins_back t k d e), derives_sound d s.1)
  derives_sound (replace {x = x} n d) s = derives_sound d (expand_sound x n s)

  sound_part : (u w : List ℕ) → Sound null begin follow (u ++ w) → Sound null begin follow w
  sound_part [] w s = s
  sound_part (a ∷ u) w s = sound_part u w s.1

  -- nothing else can follow
  pub follow_sound : (a t : ℕ) → CanFollow G a t → follow a t ≡ true
  follow_sound a t f =
      let none : IsNonterminal start → (t : ℕ) → IsKind t → false ≡ true → follow start t ≡ true = λ _ t _ e. absurd (both_ways false refl e) in
      let s = sound_part f.0 (a ∷ t ∷ f.1) (derives_sound f.4 (none, tt)) in
      s.0 f.2 t f.3 (begins_head null begin t f.1)
