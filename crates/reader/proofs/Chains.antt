-- A text from item to item, and what follows of the items' order. Assumes nothing.
use Rattle.std.proofs.Common.{◌≡◌, ℕ, zero, suc, ◌+◌, ◌<◌, ◌≤◌, Bool, true, false, eqb, ltb, ◌⊎◌, List, [], ◌∷◌, ◌++◌, length, drop, Result, sym, refl, ap, ◌∙◌, subst, inl, inr, ⊎_elim, arith, length-drop}
use Rattle.std.proofs.lemmas.List.{drop_more}
use Rattle.std.proofs.lemmas.Bool.{cases_lt, cond_both, true≢false}
use Rattle.sheet.specs.declared.fault.Fault.{Fault}
use Rattle.sheet.specs.declared.fault.Reason.TheVariants.{UnreadableByte}
use Rattle.sheet.specs.declared.lexeme.Kind.{Kind}
use Rattle.sheet.specs.declared.lexeme.Lexeme.{Lexeme}
use Rattle.reader.specs.Classes.{class, in_digits, in_name, is_gap}
use Rattle.reader.specs.Items.{Item, bad, extent, fault_at, here, item_of, items, judged, spot}
use Rattle.reader.specs.Laws.{Ordered, Taken, begins, takes}
use Rattle.reader.specs.Places.{byte}
use Rattle.reader.specs.Runs.{Front, fraction, front, front_by, fronts, gap, number_length, point_and, run, stray}
use Rattle.reader.specs.declared.class.Class.{Class}
use Rattle.reader.specs.declared.cursor.Cursor.{Cursor}
use Rattle.reader.proofs.Finds.{ends, solid}
use Rattle.reader.proofs.Fronts.{fronts_le}
use Rattle.reader.proofs.Steps.{items_front, items_gap}

-- an offset from which the text goes on, by blanks, line ends and items, to its end
pub data Chain (t : List ℕ) : ℕ → Type 0 where
  at_end : Chain t (length t)
  by_gap : {i : ℕ} → i < length t → is_gap (class (byte t i)) ≡ true → Chain t (i + 1) → Chain t i
  by_item : {i : ℕ} → i < length t → is_gap (class (byte t i)) ≡ false → Chain t (i + extent (front (drop i t))) → Chain t i

fraction_le : (bs : List ℕ) → fraction bs ≤ length bs
fraction_le [] = omega arith
fraction_le (b ∷ bs) = cond_both (eqb b 46) _ _ (λ n. n ≤ suc (length bs)) (λ e. some (fronts in_digits bs) (fronts_le in_digits bs)) (λ e. omega arith)
  where
    some : (n : ℕ) → n ≤ length bs → point_and n ≤ suc (length bs)
    some zero h = omega arith
    some (suc n) h = omega arith

number_le : (bs : List ℕ) → number_length bs ≤ length bs
number_le bs = omega (arith, fronts_le in_digits bs, fraction_le (drop (fronts in_digits bs) bs), length-drop (fronts in_digits bs) bs)

-- what stands at the front is not longer than what is there
front_le : (b : ℕ) (bs : List ℕ) → extent (front (b ∷ bs)) ≤ length (b ∷ bs)
front_le b bs = grind (arith, fronts_le in_name (b ∷ bs), number_le (b ∷ bs))

pub item_within : (t : List ℕ) (i : ℕ) → i < length t → i + extent (front (drop i t)) ≤ length t
item_within t i h =
    let P : List ℕ → Type 0 = λ bs. extent (front bs) ≤ length bs in
    omega (arith, subst P (sym (drop_more t i 0 h)) (front_le (byte t i) (drop (i + 1) t)), length-drop i t)

-- an offset is one if all further ones are
chain_step : (t : List ℕ) (i : ℕ) → i ≤ length t → ((j : ℕ) → i < j → j ≤ length t → Chain t j) → Chain t i
chain_step t i h next = ⊎_elim inside (λ l. let is : length t ≡ i = omega arith in subst (Chain t) is at_end) (cases_lt i (length t))
  where
    inside : i < length t → Chain t i
    inside l = go (is_gap (class (byte t i))) refl
      where
        go : (v : Bool) → is_gap (class (byte t i)) ≡ v → Chain t i
        go true e = by_gap l e (next (i + 1) (omega arith) (omega arith))
        go false e = by_item l e (next _ (omega (arith, (solid t i l e).some)) (item_within t i l))

chain_in : (t : List ℕ) (d i : ℕ) → length t ≤ i + d → i ≤ length t → Chain t i
chain_in t zero i long h = let is : length t ≡ i = omega arith in subst (Chain t) is at_end
chain_in t (suc d) i long h = chain_step t i h (λ j on l. chain_in t d j (omega arith) l)

-- every offset is one
pub chain : (t : List ℕ) (i : ℕ) → i ≤ length t → Chain t i
chain t i h = chain_in t (length t) i (omega arith) h

-- an item of n bytes stands at an offset
pub record Stands (t : List ℕ) (i n : ℕ) : Type 0 where
  pub item : Item
  pub at : begins item ≡ i
  pub long : takes item ≡ n
  pub told : items t i ≡ item ∷ items t (i + n)

-- whether nothing but a gap stands at the front
abbrev hollow : Front → Bool
hollow gap = true
hollow stray = false
hollow (run k n) = false

not_hollow : (k : Class) (bs : List ℕ) → is_gap k ≡ false → hollow (front_by k bs) ≡ false
not_hollow k bs e = grind arith

run_at : (i n : ℕ) (c : Cursor) (k : Kind) → c.offset ≡ i → (begins (item_of i n (judged c k n)) ≡ i) × (takes (item_of i n (judged c k n)) ≡ n)
run_at i n c k e =
    let P : Result Lexeme Fault → Type 0 = λ r. (begins (item_of i n r) ≡ i) × (takes (item_of i n r) ≡ n) in
    cond_both (ltb 64 n) _ _ P (λ h. (refl, refl)) (λ h. cond_both (ltb 4095 c.column) _ _ P (λ h'. (refl, refl)) (λ h'. (e, refl)))

pub stands : (t : List ℕ) (i : ℕ) → i < length t → is_gap (class (byte t i)) ≡ false → Stands t i (extent (front (drop i t)))
stands t i h black = go (front (drop i t)) refl
  where
    some : 0 < extent (front (drop i t))
    some = (solid t i h black).some

    shown : front (drop i t) ≡ front_by (class (byte t i)) (byte t i ∷ drop (i + 1) t)
    shown = ap front (drop_more t i 0 h)

    go : (f : Front) → front (drop i t) ≡ f → Stands t i (extent (front (drop i t)))
    go gap e = absurd (true≢false (ap hollow (sym e ∙ shown) ∙ not_hollow (class (byte t i)) _ black))
    go stray e =
        let n = ap extent e in
        record { item = bad i 1 (fault_at (spot t i) UnreadableByte); at = refl; long = sym n; told = items_front t i (front (drop i t)) h refl some ∙ ap (λ f. here t i f ++ items t (i + extent (front (drop i t)))) e }
    go (run k n) e =
        let is = ap extent e in
        let at = run_at i n (spot t i) k refl in
        record { item = item_of i n (judged (spot t i) k n); at = at.0; long = at.1 ∙ sym is; told = items_front t i (front (drop i t)) h refl some ∙ ap (λ f. here t i f ++ items t (i + extent (front (drop i t)))) e }

ordered_from : (a b to : ℕ) (xs : List Item) → a ≤ b → Ordered b to xs → Ordered a to xs
ordered_from a b to [] h o = omega arith
ordered_from a b to (x ∷ xs) h o = (omega (arith, o.0), o.1)

-- the items lie in order
pub ordered : (t : List ℕ) {i : ℕ} → Chain t i → Ordered i (length t) (items t i)
ordered t at_end = subst (Ordered (length t) (length t)) (sym (ends t (length t) refl).none) (omega arith)
ordered t (by_gap {i = i} h e c) = subst (Ordered i (length t)) (sym (items_gap t i h e)) (ordered_from i (i + 1) _ _ (omega arith) (ordered t c))
ordered t (by_item {i = i} h e c) =
    let s = stands t i h e in
    let next : i + extent (front (drop i t)) ≡ begins s.item + takes s.item = omega (arith, s.at, s.long) in
    subst (Ordered i (length t)) (sym s.told) (omega (arith, s.at), subst (λ (j : ℕ). Ordered j (length t) (items t (i + extent (front (drop i t))))) next (ordered t c))

-- a byte is an item's, or a blank or a line end
pub between : (t : List ℕ) {i : ℕ} → Chain t i → (j : ℕ) → i ≤ j → j < length t → Taken j (items t i) ⊎ (is_gap (class (byte t j)) ≡ true)
between t at_end j from to = absurd (omega arith)
between t (by_gap {i = i} h e c) j from to =
    subst (λ xs. Taken j xs ⊎ (is_gap (class (byte t j)) ≡ true)) (sym (items_gap t i h e))
    (⊎_elim (λ l. between t c j (omega arith) to) (λ l. let is : i ≡ j = omega arith in inr (subst (λ n. is_gap (class (byte t n)) ≡ true) is e)) (cases_lt i j))
between t (by_item {i = i} h e c) j from to =
    let s = stands t i h e in
    let n = extent (front (drop i t)) in
    let in-it : j < i + n → Taken j (s.item ∷ items t (i + n)) = λ l. inl (omega (arith, s.at), omega (arith, s.at, s.long)) in
    subst (λ xs. Taken j xs ⊎ (is_gap (class (byte t j)) ≡ true)) (sym s.told)
    (⊎_elim (λ l. inl (in-it l)) (λ l. ⊎_elim (λ x. inl (inr x)) inr (between t c j l to)) (cases_lt j (i + n)))
