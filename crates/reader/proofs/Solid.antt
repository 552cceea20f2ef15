-- No byte of an item is a blank or a line end. Assumes nothing.
use Rattle.std.proofs.Common.{◌≡◌, ℕ, zero, suc, ◌-◌, ◌<◌, ◌≤◌, Bool, true, false, cond, eqb, List, [], ◌∷◌, drop, sym, refl, ap, ◌∙◌, ⊎_elim, arith}
use Rattle.std.proofs.lemmas.List.{get_or-drop}
use Rattle.std.proofs.lemmas.Bool.{true≢false, cases_lt, eqb-true}
use Rattle.reader.specs.Classes.{class, in_digits, in_name, is_gap}
use Rattle.reader.specs.Items.{extent}
use Rattle.reader.specs.Places.{byte}
use Rattle.reader.specs.Runs.{fraction, front, front_by, fronts, number_length, point_and}
use Rattle.reader.specs.declared.class.Class.{Class}
use Rattle.reader.specs.declared.class.Class.TheVariants.{Blank, LineEnd, Letter, Digit, Apostrophe, Point, Sign, Unreadable}
use Rattle.reader.proofs.Fronts.{fronts_pass}

-- the byte at an offset is no blank and no line end
abbrev pub Black : List ℕ → ℕ → Type 0
Black bs j = is_gap (class (byte bs j)) ≡ false

name_black : (c : Class) → in_name c ≡ true → is_gap c ≡ false
name_black c e = grind arith

digit_black : (c : Class) → in_digits c ≡ true → is_gap c ≡ false
digit_black c e = grind arith

digits_black : (bs : List ℕ) (j : ℕ) → j < fronts in_digits bs → Black bs j
digits_black bs j h = digit_black _ (fronts_pass in_digits bs j h)

point_black : (b : ℕ) → b ≡ 46 → is_gap (class b) ≡ false
unfolding class
point_black b e = ap (λ k. is_gap (class k)) e

fraction_black : (bs : List ℕ) (j : ℕ) → j < fraction bs → Black bs j
fraction_black [] j h = absurd (omega arith)
fraction_black (b ∷ bs) j h = by_point (eqb b 46) refl j h
  where
    behind : (n : ℕ) → n ≡ fronts in_digits bs → b ≡ 46 → (k : ℕ) → k < point_and n → Black (b ∷ bs) k
    behind zero e is k l = absurd (omega arith)
    behind (suc n) e is zero l = point_black b is
    behind (suc n) e is (suc k) l = digits_black bs k (omega arith)

    by_point : (v : Bool) → eqb b 46 ≡ v → (k : ℕ) → k < cond v (point_and (fronts in_digits bs)) 0 → Black (b ∷ bs) k
    by_point true e k l = behind (fronts in_digits bs) refl (eqb-true b 46 e) k l
    by_point false e k l = absurd (omega arith)

number_black : (bs : List ℕ) (j : ℕ) → j < number_length bs → Black bs j
number_black bs j h = ⊎_elim (digits_black bs j) past (cases_lt j (fronts in_digits bs))
  where
    past : fronts in_digits bs ≤ j → Black bs j
    past l =
        let d = fronts in_digits bs in
        let there : byte (drop d bs) (j - d) ≡ byte bs j = get_or-drop d bs (j - d) 0 ∙ ap (byte bs) (omega arith) in
        ap (λ b. is_gap (class b)) (sym there) ∙ fraction_black (drop d bs) (j - d) (omega arith)

-- a byte that passes is counted
fronts_some : (p : Class → Bool) (b : ℕ) (bs : List ℕ) → p (class b) ≡ true → 0 < fronts p (b ∷ bs)
fronts_some p b bs e = grind arith

-- what stands at the front takes some bytes, none of them a blank or a line end
pub record SolidFront (bs : List ℕ) (n : ℕ) : Type 0 where
  pub some : 0 < n
  pub black : (j : ℕ) → j < n → Black bs j

pub front_solid : (b : ℕ) (bs : List ℕ) → is_gap (class b) ≡ false → SolidFront (b ∷ bs) (extent (front (b ∷ bs)))
front_solid b bs black = go (class b) refl
  where
    alone : (j : ℕ) → j < 1 → Black (b ∷ bs) j
    alone zero h = black
    alone (suc j) h = absurd (omega arith)

    go : (k : Class) → class b ≡ k → SolidFront (b ∷ bs) (extent (front_by k (b ∷ bs)))
    go Blank e = absurd (true≢false (sym (ap is_gap e) ∙ black))
    go LineEnd e = absurd (true≢false (sym (ap is_gap e) ∙ black))
    go Letter e = record { some = fronts_some in_name b bs (ap in_name e); black = λ j h. name_black _ (fronts_pass in_name (b ∷ bs) j h) }
    go Digit e = record { some = omega (arith, fronts_some in_digits b bs (ap in_digits e)); black = number_black (b ∷ bs) }
    go Apostrophe e = record { some = omega arith; black = alone }
    go Point e = record { some = omega arith; black = alone }
    go (Sign k) e = record { some = omega arith; black = alone }
    go Unreadable e = record { some = omega arith; black = alone }
