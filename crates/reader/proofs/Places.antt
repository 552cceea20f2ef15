-- Where a byte leads: the line, the column and the flag after it. Assumes nothing.
use Rattle.std.proofs.Common.{◌≡◌, ℕ, zero, suc, ◌+◌, ◌*◌, ◌<◌, ◌≤◌, true, false, ◌&&◌, eqb, List, length, drop, sym, refl, ap, ◌∙◌, ⊎_elim, add-zero, add-suc, add-one, arith}
use Rattle.std.proofs.lemmas.List.{get_or-drop, get_or_past}
use Rattle.std.proofs.lemmas.Bool.{false≢true, cond-true, cond-false, cond_both, ne_eqb, and_left, and_right, and_from, and_parts, or_left, or_from, or_parts, not_from_false, not_from_true, eqb-true, cases_lt}
use Rattle.reader.specs.Classes.{class, blank, is_gap, line_end}
use Rattle.reader.specs.Cursors.{Placed}
use Rattle.reader.specs.Places.{byte, crlf, ends_line, next_column, line_at, column_at, first_at}
use Rattle.reader.specs.declared.cursor.Cursor.{Cursor}

-- a byte leads at least one column on, and at most eight
pub next_column_near : (b c : ℕ) → 1 ≤ c → (c < next_column b c) × (next_column b c ≤ c + 8)
next_column_near b c h =
    let P : ℕ → Type 0 = λ n. (c < n) × (n ≤ c + 8) in
    cond_both (eqb b 9) _ _ P (λ e. omega arith) (λ e. omega arith)

pub column_bounds : (t : List ℕ) (i : ℕ) → (1 ≤ column_at t i) × (column_at t i ≤ 1 + 8 * i)
column_bounds t zero = (omega arith, omega arith)
column_bounds t (suc i) =
    let before = column_bounds t i in
    let near = next_column_near (byte t i) (column_at t i) before.0 in
    let P : ℕ → Type 0 = λ n. (1 ≤ n) × (n ≤ 1 + 8 * suc i) in
    cond_both (line_end (class (byte t i))) _ _ P (λ e. omega arith) (λ e. omega arith)

pub line_bound : (t : List ℕ) (i : ℕ) → line_at t i ≤ 1 + i
line_bound t zero = omega arith
line_bound t (suc i) =
    let before = line_bound t i in
    let P : ℕ → Type 0 = λ n. n ≤ 1 + suc i in
    cond_both (ends_line t i) _ _ P (λ e. omega arith) (λ e. omega arith)

-- a cursor as its parts are
at_offset : (t : List ℕ) (i : ℕ) (c : Cursor) → c.offset ≡ i → i ≤ length t → c.line ≡ line_at t i → c.column ≡ column_at t i → c.first ≡ first_at t i → Placed t c
at_offset t i c e h l k f =
    record {
      within = omega arith;
      line = l ∙ ap (line_at t) (sym e);
      column = k ∙ ap (column_at t) (sym e);
      first = f ∙ ap (first_at t) (sym e);
    }

-- inside a line, a byte stays on it
line_inside : (t : List ℕ) (i : ℕ) → line_end (class (byte t i)) ≡ false → line_at t (suc i) ≡ line_at t i
line_inside t i e = cond-false _ _ _ (and_left _ _ e)

column_inside : (t : List ℕ) (i : ℕ) → line_end (class (byte t i)) ≡ false → column_at t (suc i) ≡ next_column (byte t i) (column_at t i)
column_inside t i e = cond-false _ _ _ e

-- a tab is a blank, so a byte of a run is one column wide
not_tab : (b : ℕ) → is_gap (class b) ≡ false → eqb b 9 ≡ false
unfolding class
not_tab b e = ne_eqb b 9 (λ is. false≢true (sym e ∙ ap (λ n. is_gap (class n)) is))

column_run : (t : List ℕ) (i : ℕ) → is_gap (class (byte t i)) ≡ false → column_at t (suc i) ≡ column_at t i + 1
column_run t i e = column_inside t i (or_parts _ _ e).1 ∙ cond-false _ _ _ (not_tab (byte t i) e)

first_run : (t : List ℕ) (i : ℕ) → is_gap (class (byte t i)) ≡ false → first_at t (suc i) ≡ false
first_run t i e =
    let k = class (byte t i) in
    let parts = or_parts (blank k) (line_end k) e in
    or_from (line_end k) (blank k && first_at t i) parts.1 (and_left (blank k) (first_at t i) parts.0)

-- none of n bytes from offset i on is a blank or a line end
abbrev pub Solid : List ℕ → ℕ → ℕ → Type 0
Solid t i n = (k : ℕ) → k < n → is_gap (class (byte t (i + k))) ≡ false

-- such bytes stay on the line and are one column wide each
pub record After (t : List ℕ) (i n : ℕ) : Type 0 where
  pub line : line_at t (i + n) ≡ line_at t i
  pub column : column_at t (i + n) ≡ column_at t i + n
  pub first : 0 < n → first_at t (i + n) ≡ false

pub after_run : (t : List ℕ) (i n : ℕ) → Solid t i n → After t i n
after_run t i zero solid = record { line = ap (line_at t) (add-zero i); column = ap (column_at t) (add-zero i) ∙ sym (add-zero _); first = λ h. absurd (omega arith) }
after_run t i (suc n) solid =
    let before = after_run t i n (λ k h. solid k (omega arith)) in
    let last = solid n (omega arith) in
    record {
      line = ap (line_at t) (add-suc i n) ∙ line_inside t (i + n) (or_parts _ _ last).1 ∙ before.line;
      column = ap (column_at t) (add-suc i n) ∙ column_run t (i + n) last ∙ omega (arith, before.column);
      first = λ h. ap (first_at t) (add-suc i n) ∙ first_run t (i + n) last;
    }

-- the first byte of what is left
pub first_byte : (t : List ℕ) (i : ℕ) → byte (drop i t) 0 ≡ byte t i
first_byte t i = get_or-drop i t 0 0 ∙ ap (byte t) (add-zero i)

-- a line end stands inside the text
pub line_end_inside : (t : List ℕ) (i : ℕ) → line_end (class (byte t i)) ≡ true → i < length t
unfolding class
line_end_inside t i e = ⊎_elim (λ h. h) (λ h. absurd (false≢true (ap (λ k. line_end (class k)) (sym (get_or_past t i 0 h)) ∙ e))) (cases_lt i (length t))

-- 13 10 at offset i: the line goes on after the 13 and ends with the 10
pub record CarriageReturn (t : List ℕ) (i : ℕ) : Type 0 where
  pub within : i + 2 ≤ length t
  pub return : byte t i ≡ 13
  pub line_feed : byte t (suc i) ≡ 10
  pub stays : line_at t (suc i) ≡ line_at t i
  pub alone : crlf (drop (suc i) t) ≡ false

pub carriage_return : (t : List ℕ) (i : ℕ) → crlf (drop i t) ≡ true → CarriageReturn t i
carriage_return t i both =
    let parts = and_parts (eqb (byte (drop i t) 0) 13) (eqb (byte (drop i t) 1) 10) both in
    let feed : byte t (suc i) ≡ 10 = ap (byte t) (sym (add-one i)) ∙ sym (get_or-drop i t 1 0) ∙ eqb-true _ 10 parts.1 in
    record {
      within = inside feed;
      return = sym (first_byte t i) ∙ eqb-true _ 13 parts.0;
      line_feed = feed;
      stays = cond-false _ _ _ (and_right _ _ (not_from_true _ both));
      alone = and_left (eqb (byte (drop (suc i) t) 0) 13) _ (ne_eqb _ 13 (λ e. differ (sym feed ∙ sym (first_byte t (suc i)) ∙ e)));
    }
  where
    differ : ◌≡◌ {A = ℕ} 10 13 → ⊥
    differ e = omega arith

    inside : byte t (suc i) ≡ 10 → i + 2 ≤ length t
    inside e = ⊎_elim (λ h. omega arith) (λ h. absurd (omega (arith, sym e ∙ get_or_past t (suc i) 0 h))) (cases_lt (suc i) (length t))

-- a line feed ends a line
ten_ends : line_end (class 10) ≡ true
unfolding class
ten_ends = refl

module _ (t : List ℕ) (c : Cursor) (placed : Placed t c) where
  -- after a run
  pub placed_run : (n : ℕ) → 0 < n → c.offset + n ≤ length t → Solid t c.offset n → (d : Cursor) → d ≡ record { offset = c.offset + n; line = c.line; column = c.column + n; first = false } → Placed t d
  placed_run n some within solid d e =
      let after = after_run t c.offset n solid in
      at_offset t (c.offset + n) d (ap (λ (x : Cursor). x.offset) e) within
      (ap (λ (x : Cursor). x.line) e ∙ placed.line ∙ sym after.line)
      (ap (λ (x : Cursor). x.column) e ∙ ap (λ k. k + n) placed.column ∙ sym after.column)
      (ap (λ (x : Cursor). x.first) e ∙ sym (after.first some))

  -- after a line end of one byte
  pub placed_line : c.offset < length t → line_end (class (byte t c.offset)) ≡ true → crlf (drop c.offset t) ≡ false → (d : Cursor) → d ≡ record { offset = c.offset + 1; line = c.line + 1; column = 1; first = true } → Placed t d
  placed_line inside ends single d e =
      at_offset t (suc c.offset) d (ap (λ (x : Cursor). x.offset) e ∙ add-one c.offset) inside
      (ap (λ (x : Cursor). x.line) e ∙ ap (λ k. k + 1) placed.line ∙ sym (cond-true _ _ _ (and_from _ _ ends (not_from_false _ single))))
      (ap (λ (x : Cursor). x.column) e ∙ sym (cond-true _ _ _ ends))
      (ap (λ (x : Cursor). x.first) e ∙ sym (or_left _ _ ends))

  -- after 13 10
  pub placed_crlf : crlf (drop c.offset t) ≡ true → (c.offset + 2 ≤ length t) × ((d : Cursor) → d ≡ record { offset = c.offset + 2; line = c.line + 1; column = 1; first = true } → Placed t d)
  placed_crlf both =
      let i = c.offset in
      let r = carriage_return t i both in
      let second = ap (λ k. line_end (class k)) r.line_feed ∙ ten_ends in (
        r.within,
        λ d e.
            at_offset t (suc (suc i)) d (ap (λ (x : Cursor). x.offset) e ∙ omega arith) (omega (arith, r.within))
            (ap (λ (x : Cursor). x.line) e ∙ ap (λ k. k + 1) (placed.line ∙ sym r.stays) ∙ sym (cond-true _ _ _ (and_from _ _ second (not_from_false _ r.alone))))
            (ap (λ (x : Cursor). x.column) e ∙ sym (cond-true _ _ _ second))
            (ap (λ (x : Cursor). x.first) e ∙ sym (or_left _ _ second)),
      )
