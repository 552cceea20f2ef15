-- Derivations put together and taken apart.
-- Assumes nothing.
use Rattle.std.proofs.Common.{◌≡◌, ℕ, ◌⊎◌, List, [], ◌∷◌, ◌++◌, sym, refl, ap, ◌∙◌, subst, inl, inr, append_assoc, arith}
use Rattle.grammar.specs.Grammar.{Production, Grammar, Numbered, Derives, done, keep, replace}

-- every list derives itself
pub derives_refl : {G : Grammar} (x : List ℕ) → Derives G x x
derives_refl [] = done
derives_refl (s ∷ x) = keep (derives_refl x)

-- one after the other
pub derives_append : {G : Grammar} {x u y v : List ℕ} → Derives G x u → Derives G y v → Derives G (x ++ y) (u ++ v)
derives_append done e = e
derives_append (keep d) e = keep (derives_append d e)
derives_append {G} {y = y} {v = v} (replace {p = p} {x = x} {w = w} n d) e =
    replace n (subst (λ z. Derives G z (w ++ v)) (append_assoc p.right x y) (derives_append d e))

-- an empty list is none with a first symbol, and equal lists have equal parts
pub nil_cons : {s : ℕ} {l : List ℕ} → [] ≡ s ∷ l → ⊥
nil_cons {s} {l} e = let z : ◌≡◌ {A = ℕ} 0 1 = cc in omega arith

cons_head : {r s : ℕ} {k l : List ℕ} → r ∷ k ≡ s ∷ l → r ≡ s
cons_head e = cc

cons_tail : {r s : ℕ} {k l : List ℕ} → r ∷ k ≡ s ∷ l → k ≡ l
cons_tail e = cc

append_nil_parts : (u v : List ℕ) → u ++ v ≡ [] → (u ≡ []) × (v ≡ [])
append_nil_parts [] v e = (refl, e)
append_nil_parts (s ∷ u) v e = absurd (nil_cons (sym e))

-- what one list after another derives is what the first derives, and then what the second does
pub record Split (G : Grammar) (x y w : List ℕ) : Type 0 where
  pub front : List ℕ
  pub back : List ℕ
  pub whole : w ≡ front ++ back
  pub first_derives : Derives G x front
  pub second_derives : Derives G y back

split_at : {G : Grammar} {z w : List ℕ} (x y : List ℕ) → Derives G z w → z ≡ x ++ y → Split G x y w
split_at {G} [] y done e =
    record { front = []; back = []; whole = refl; first_derives = done; second_derives = subst (λ l. Derives G l []) e done }
split_at (s ∷ x) y done e = absurd (nil_cons e)
split_at {G} [] y (keep {s = r} {w = w} d) e =
    record { front = []; back = r ∷ w; whole = refl; first_derives = done; second_derives = subst (λ l. Derives G l (r ∷ w)) e (keep d) }
split_at {G} (s ∷ x) y (keep {s = r} {w = w} d) e =
    let rest = split_at x y d (cons_tail e) in
    record {
      front = r ∷ rest.front;
      back = rest.back;
      whole = ap (λ l. r ∷ l) rest.whole;
      first_derives = subst (λ a. Derives G (a ∷ x) (r ∷ rest.front)) (cons_head e) (keep rest.first_derives);
      second_derives = rest.second_derives;
    }
split_at {G} [] y (replace {w = w} n d) e =
    record { front = []; back = w; whole = refl; first_derives = done; second_derives = subst (λ l. Derives G l w) e (replace n d) }
split_at {G} (s ∷ x) y (replace {p = p} {x = z} {w = w} n d) e =
    let rest = split_at (p.right ++ x) y d (ap (λ l. p.right ++ l) (cons_tail e) ∙ sym (append_assoc p.right x y)) in
    record {
      front = rest.front;
      back = rest.back;
      whole = rest.whole;
      first_derives = subst (λ a. Derives G (a ∷ x) rest.front) (cons_head e) (replace n rest.first_derives);
      second_derives = rest.second_derives;
    }

pub derives_split : {G : Grammar} {w : List ℕ} (x y : List ℕ) → Derives G (x ++ y) w → Split G x y w
derives_split x y d = split_at x y d refl

-- what is derived from what is derived is derived
pub derives_trans : {G : Grammar} {x w v : List ℕ} → Derives G x w → Derives G w v → Derives G x v
derives_trans done e = e
derives_trans {G} {v = v} (keep {s = s} {x = x} {w = w} d) e =
    let parts = derives_split (s ∷ []) w e in
    subst (Derives G (s ∷ x)) (sym parts.whole) (derives_append parts.first_derives (derives_trans d parts.second_derives))
derives_trans (replace n d) e = replace n (derives_trans d e)

-- a symbol within a list is replaced by the right side of a production of its own
pub derives_within : {G : Grammar} {n : ℕ} {p : Production} (u x : List ℕ) → Numbered G n p → Derives G (u ++ p.left ∷ x) (u ++ (p.right ++ x))
derives_within {p = p} u x n = derives_append (derives_refl u) (replace n (derives_refl (p.right ++ x)))

-- the empty list is derived from two lists exactly where it is from each
pub null_parts : {G : Grammar} (x y : List ℕ) → Derives G (x ++ y) [] → Derives G x [] × Derives G y []
null_parts {G} x y d =
    let parts = derives_split x y d in
    let none = append_nil_parts parts.front parts.back (sym parts.whole) in
    (subst (Derives G x) none.0 parts.first_derives, subst (Derives G y) none.1 parts.second_derives)

begin_cases : {G : Grammar} (x y : List ℕ) (t : ℕ) (w u v : List ℕ) → t ∷ w ≡ u ++ v → Derives G x u → Derives G y v → ((r : List ℕ) × Derives G x (t ∷ r)) ⊎ (Derives G x [] × Derives G y (t ∷ w))
begin_cases {G} x y t w [] v e d f = inr (d, subst (Derives G y) (sym e) f)
begin_cases {G} x y t w (s ∷ u) v e d f = inl (u, subst (λ a. Derives G x (a ∷ u)) (sym (cons_head e)) d)

-- a list derived from two begins with what the first derives, or the first derives nothing
pub begin_parts : {G : Grammar} (x y : List ℕ) (t : ℕ) (w : List ℕ) → Derives G (x ++ y) (t ∷ w) → ((v : List ℕ) × Derives G x (t ∷ v)) ⊎ (Derives G x [] × Derives G y (t ∷ w))
begin_parts {G} x y t w d = let parts = derives_split x y d in begin_cases x y t w parts.front parts.back parts.whole parts.first_derives parts.second_derives
