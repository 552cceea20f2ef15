-- Columns and flags are counted from the start of the line. Assumes nothing.
use Rattle.std.proofs.Common.{◌≡◌, ℕ, zero, suc, ◌+◌, ◌-◌, ◌<◌, ◌≤◌, Bool, true, false, ◌&&◌, ◌||◌, List, [], ◌∷◌, ◌++◌, length, drop, sym, refl, ap, ◌∙◌, subst, inl, inr, ⊎_elim, arith, length-drop}
use Rattle.std.proofs.lemmas.List.{get_or-drop, take_more}
use Rattle.std.proofs.lemmas.Bool.{and_cases, and_parts, cases_lt, cond-true, cond-false, or_left, true≢false}
use Rattle.reader.specs.Classes.{blank, class, line_end}
use Rattle.reader.specs.Laws.{Counted, counted}
use Rattle.reader.specs.Places.{byte, first_at, next_column}
use Rattle.reader.specs.Spelling.{part}

-- one byte more
counted_push : (c : ℕ) (xs : List ℕ) (b : ℕ) → counted c (xs ++ b ∷ []) ≡ next_column b (counted c xs)
counted_push c [] b = refl
counted_push c (x ∷ xs) b = counted_push (next_column x c) xs b

part_more : (t : List ℕ) (s m : ℕ) → s + m < length t → part t s (m + 1) ≡ part t s m ++ byte t (s + m) ∷ []
part_more t s m h = take_more (drop s t) m 0 (omega (arith, length-drop s t)) ∙ ap (λ b. part t s m ++ b ∷ []) (get_or-drop s t m 0)

-- a line starts behind a line end
after_line_end : (t : List ℕ) (i : ℕ) → line_end (class (byte t i)) ≡ true → Counted t (suc i)
after_line_end t i e =
    let back : suc i - 1 ≡ i = omega arith in
    let none : suc i - suc i ≡ 0 = omega arith in
    record {
      from = suc i;
      starts = record { before = omega arith; start = inr (ap (λ j. line_end (class (byte t j))) back ∙ e); inside = λ j l h. absurd (omega arith) };
      column = cond-true _ _ _ e ∙ ap (λ n. counted 1 (part t (suc i) n)) (sym none);
      blanks = λ f j l h. absurd (omega arith);
      other = λ f. absurd (true≢false (sym (or_left (line_end (class (byte t i))) _ e) ∙ f));
    }

-- and goes on behind any other byte
after_byte : (t : List ℕ) (i : ℕ) → i < length t → line_end (class (byte t i)) ≡ false → Counted t i → Counted t (suc i)
after_byte t i h e before =
    let s = before.from in
    let starts = before.starts in
    let flag : first_at t (suc i) ≡ (blank (class (byte t i)) && first_at t i) = ap (λ b. b || (blank (class (byte t i)) && first_at t i)) e in
    let here : s + (i - s) ≡ i = omega (arith, starts.before) in
    let longer : suc i - s ≡ i - s + 1 = omega (arith, starts.before) in
    record {
      from = s;
      starts = record {
        before = omega (arith, starts.before);
        start = starts.start;
        inside = λ j l k. ⊎_elim (starts.inside j l) (λ m. let is : i ≡ j = omega arith in subst (λ n. line_end (class (byte t n)) ≡ false) is e) (cases_lt j i);
      };
      column = cond-false _ _ _ e ∙ ap (next_column (byte t i)) before.column ∙ sym (ap (λ n. counted 1 (part t s n)) longer
          ∙ ap (counted 1) (part_more t s (i - s) (omega (arith, here)) ∙ ap (λ n. part t s (i - s) ++ byte t n ∷ []) here) ∙ counted_push 1 (part t s (i - s)) (byte t i));
      blanks = λ f j l k.
          let both = and_parts (blank (class (byte t i))) (first_at t i) (sym flag ∙ f) in
          ⊎_elim (before.blanks both.1 j l) (λ m. let is : i ≡ j = omega arith in subst (λ n. blank (class (byte t n)) ≡ true) is both.0) (cases_lt j i);
      other = λ f.
          ⊎_elim (λ b. (i, (omega (arith, starts.before), omega arith, b))) (λ b. let o = before.other b in (o.0, (o.1.0, omega (arith, o.1.1), o.1.2)))
          (and_cases (blank (class (byte t i))) (first_at t i) (sym flag ∙ f));
    }

pub counted_at : (t : List ℕ) (i : ℕ) → i ≤ length t → Counted t i
counted_at t zero h =
    record {
      from = 0;
      starts = record { before = omega arith; start = inl refl; inside = λ j l k. absurd (omega arith) };
      column = refl;
      blanks = λ f j l k. absurd (omega arith);
      other = λ f. absurd (true≢false f);
    }
counted_at t (suc i) h = go (line_end (class (byte t i))) refl (counted_at t i (omega arith))
  where
    go : (v : Bool) → line_end (class (byte t i)) ≡ v → Counted t i → Counted t (suc i)
    go true e before = after_line_end t i e
    go false e before = after_byte t i h e before
