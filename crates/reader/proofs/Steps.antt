-- One step of the reader: what a byte leaves of the items, and where it leads. Assumes nothing.
use Rattle.std.proofs.Common.{◌≡◌, ℕ, zero, suc, ◌+◌, ◌-◌, ◌<◌, ◌≤◌, Bool, true, false, cond, Some, List, [], ◌∷◌, ◌++◌, length, drop, sym, refl, ap, ◌∙◌, subst, add-zero, add-suc, suc-add, add-one, arith}
use Rattle.std.proofs.lemmas.List.{drop_more, drop-drop}
use Rattle.std.proofs.lemmas.Bool.{or_right, cond-true, cond-false}
use Rattle.reader.specs.Classes.{class, is_gap, blank, line_end}
use Rattle.reader.specs.Cursors.{Placed}
use Rattle.reader.specs.Items.{here, extent, items, items_from}
use Rattle.reader.specs.Places.{byte, crlf, line_end_length}
use Rattle.reader.specs.Runs.{Front, front, front_by, gap}
use Rattle.reader.specs.declared.cursor.Cursor.{Cursor}
use Rattle.reader.proofs.Places.{carriage_return, first_byte, line_end_inside, placed_line, placed_crlf}
use Rattle.reader.specs.declared.class.Class.{Class}
use Rattle.reader.specs.declared.class.Class.TheVariants.{LineEnd}

gap_front : (k : Class) (bs : List ℕ) → is_gap k ≡ true → front_by k bs ≡ gap
gap_front k bs e = grind arith

-- the byte at an offset comes first of what is left
pub items_at : (t : List ℕ) (i : ℕ) → i < length t → items t i ≡ items_from t 0 i (byte t i ∷ drop (i + 1) t)
items_at t i h = ap (items_from t 0 i) (drop_more t i 0 h)

-- what is inside an item that was told brings none
items_skip : (t : List ℕ) (n i : ℕ) (bs : List ℕ) → items_from t n i bs ≡ items_from t 0 (i + n) (drop n bs)
items_skip t zero i bs = ap (λ j. items_from t 0 j bs) (sym (add-zero i))
items_skip t (suc n) i [] = refl
items_skip t (suc n) i (b ∷ bs) = items_skip t n (suc i) bs ∙ ap (λ j. items_from t 0 j (drop n bs)) (suc-add i n ∙ sym (add-suc i n))

-- what stands at an offset is told, and then the items after it
pub items_front : (t : List ℕ) (i : ℕ) (f : Front) → i < length t → front (drop i t) ≡ f → 0 < extent f → items t i ≡ here t i f ++ items t (i + extent f)
items_front t i f h is some =
    let rest = drop (i + 1) t in
    let n = extent f - 1 in
    let shown : front (byte t i ∷ rest) ≡ f = ap front (sym (drop_more t i 0 h)) ∙ is in
    let on : suc i + n ≡ i + extent f = omega arith in
    let past : drop n rest ≡ drop (i + extent f) t = drop-drop n (i + 1) t ∙ ap (λ j. drop j t) (omega arith) in
    items_at t i h ∙ ap (λ g. here t i g ++ items_from t (extent g - 1) (suc i) rest) shown
    ∙ ap (λ l. here t i f ++ l) (items_skip t n (suc i) rest ∙ ap (λ j. items_from t 0 j (drop n rest)) on ∙ ap (items_from t 0 (i + extent f)) past)

-- a blank or a line end is no item
pub items_gap : (t : List ℕ) (i : ℕ) → i < length t → is_gap (class (byte t i)) ≡ true → items t i ≡ items t (i + 1)
items_gap t i h e = items_at t i h ∙ ap (λ f. here t i f ++ items_from t (extent f - 1) (suc i) (drop (i + 1) t)) (gap_front _ _ e) ∙ ap (λ j. items_from t 0 j (drop (i + 1) t)) (sym (add-one i))

thirteen_gap : is_gap (class 13) ≡ true
unfolding class
thirteen_gap = refl

ten_gap : is_gap (class 10) ≡ true
unfolding class
ten_gap = refl

-- a cursor stands past an offset, with nothing but blanks and line ends between
pub record Passed (t : List ℕ) (i : ℕ) (c : Cursor) : Type 0 where
  pub placed : Placed t c
  pub further : i < c.offset
  pub same : items t i ≡ items t c.offset

module _ (t : List ℕ) (c : Cursor) (placed : Placed t c) where
  -- a line end of n bytes is passed
  abbrev pub LinePassed : ℕ → Type 0
  LinePassed n = (c.offset + n ≤ length t) × ((d : Cursor) → d ≡ record { offset = c.offset + n; line = c.line + 1; column = 1; first = true } → Passed t c.offset d)

  two_passed : crlf (drop c.offset t) ≡ true → LinePassed 2
  two_passed both =
      let i = c.offset in
      let r = carriage_return t i both in
      let to = placed_crlf t c placed both in
      let first : is_gap (class (byte t i)) ≡ true = ap (λ b. is_gap (class b)) r.return ∙ thirteen_gap in
      let second : is_gap (class (byte t (i + 1))) ≡ true = ap (λ b. is_gap (class b)) (ap (byte t) (add-one i) ∙ r.line_feed) ∙ ten_gap in (
        to.0,
        λ d e.
            let on = ap (λ (x : Cursor). x.offset) e in
            let there : i + 1 + 1 ≡ d.offset = omega arith in
            record {
              placed = to.1 d e;
              further = omega arith;
              same = items_gap t i (omega (arith, to.0)) first ∙ items_gap t (i + 1) (omega (arith, to.0)) second ∙ ap (items t) there;
            },
      )

  one_passed : crlf (drop c.offset t) ≡ false → line_end (class (byte t c.offset)) ≡ true → LinePassed 1
  one_passed single ends =
      let i = c.offset in
      let inside = line_end_inside t i ends in (
        omega arith,
        λ d e.
            let on = ap (λ (x : Cursor). x.offset) e in
            record {
              placed = placed_line t c placed inside ends single d e;
              further = omega arith;
              same = items_gap t i inside (or_right (blank (class (byte t i))) (line_end (class (byte t i))) ends) ∙ ap (items t) (sym on);
            },
      )

  -- a line end is passed, be it one byte or two
  pub line_end_passed : class (byte t c.offset) ≡ LineEnd → (n : ℕ) → Some n ≡ line_end_length (drop c.offset t) → LinePassed n
  line_end_passed is n long = by_bytes (crlf (drop c.offset t)) refl
    where
      ends : line_end (class (byte t c.offset)) ≡ true
      ends = ap line_end is

      length_is : n ≡ cond (crlf (drop c.offset t)) 2 1
      length_is = let some : Some n ≡ Some (cond (crlf (drop c.offset t)) 2 1) = long ∙ cond-true _ _ _ (ap (λ b. line_end (class b)) (first_byte t c.offset) ∙ ends) in cc

      by_bytes : (b : Bool) → crlf (drop c.offset t) ≡ b → LinePassed n
      by_bytes true e = subst LinePassed (sym (length_is ∙ cond-true _ _ _ e)) (two_passed e)
      by_bytes false e = subst LinePassed (sym (length_is ∙ cond-false _ _ _ e)) (one_passed e ends)
