-- The items are what the text has, and nothing else is. Assumes nothing.
use Rattle.std.proofs.Common.{◌≡◌, ℕ, ◌+◌, ◌<◌, ◌≤◌, Bool, true, false, List, ◌∷◌, ◌++◌, length, take, drop, sym, refl, ap, ◌∙◌, subst, ⊎_elim, arith, length-append, length-drop}
use Rattle.std.proofs.lemmas.List.{drop_more, length-take-le}
use Rattle.std.proofs.lemmas.Bool.{cases_lt, true≢false}
use Rattle.sheet.specs.declared.lexeme.Kind.{Kind}
use Rattle.reader.specs.Classes.{class, is_gap}
use Rattle.reader.specs.Items.{Item, extent, here, items}
use Rattle.reader.specs.Laws.{Has, end, gap, run, stray}
use Rattle.reader.specs.Places.{byte}
use Rattle.reader.specs.Runs.{Front, front, front_by, run as run_front, stray as stray_front}
use Rattle.reader.specs.Spelling.{Longest, Spells, Stray, name, part, pointed, sign, whole}
use Rattle.reader.proofs.Chains.{Chain, at_end, by_gap, by_item, item_within}
use Rattle.reader.proofs.Finds.{ends, solid}
use Rattle.reader.proofs.Spelled.{Bounded, bounded, front_opening, front_stray, kind_by, opening, reach, spelled}
use Rattle.reader.proofs.Steps.{items_front, items_gap}

module _ (t : List ℕ) (i : ℕ) (inside : i < length t) where
  -- what is left from the offset on, with its first byte
  left_is : drop i t ≡ byte t i ∷ drop (i + 1) t
  left_is = drop_more t i 0 inside

  -- what is spelled at the offset is bounded
  pub bounded_at : (k : Kind) (m : ℕ) → i + m ≤ length t → Spells k (part t i m) → Bounded (byte t i) (drop (i + 1) t) k m
  bounded_at k m h s =
      bounded (byte t i) (drop (i + 1) t) k m (omega (arith, sym (ap length left_is), length-drop i t)) (subst (λ l. Spells k (take m l)) left_is s)

  pub front_at : front (drop i t) ≡ front_by (class (byte t i)) (byte t i ∷ drop (i + 1) t)
  front_at = ap front left_is

  -- a run
  abbrev pub length_at : ℕ
  length_at = reach (class (byte t i)) (byte t i ∷ drop (i + 1) t)

  abbrev pub kind_at : Kind
  kind_at = kind_by (class (byte t i)) (take length_at (byte t i ∷ drop (i + 1) t))

  pub run_at : opening (class (byte t i)) ≡ true → front (drop i t) ≡ run_front kind_at length_at
  run_at o = front_at ∙ front_opening (class (byte t i)) _ o

  pub spelled_at : opening (class (byte t i)) ≡ true → Spells kind_at (part t i length_at)
  spelled_at o = subst (λ l. Spells kind_at (take length_at l)) (sym left_is) (spelled (byte t i) (drop (i + 1) t) (class (byte t i)) refl o)

  pub longest_at : opening (class (byte t i)) ≡ true → Longest t i kind_at length_at
  longest_at o =
      record {
        within = subst (λ f. i + extent f ≤ length t) (run_at o) (item_within t i inside);
        spelled = spelled_at o;
        longest = λ j m more h s. omega (arith, (bounded_at j m h s).far);
      }

  pub stray_at : is_gap (class (byte t i)) ≡ false → opening (class (byte t i)) ≡ false → Stray t i
  stray_at black o = record { black = black; no_lexeme = λ j m h s. true≢false (sym (bounded_at j m h s).opens ∙ o) }

-- from an offset on, the text has its items
pub has : (t : List ℕ) {i : ℕ} → Chain t i → Has t i (items t i)
has t at_end = subst (Has t (length t)) (sym (ends t (length t) refl).none) end
has t (by_gap {i = i} h e c) = subst (Has t i) (sym (items_gap t i h e)) (gap h e (has t c))
has t (by_item {i = i} h e c) = go (opening (class (byte t i))) refl (has t c)
  where
    some : 0 < extent (front (drop i t))
    some = (solid t i h e).some

    told : (f : Front) → front (drop i t) ≡ f → Has t (i + extent (front (drop i t))) (items t (i + extent (front (drop i t)))) → (Has t (i + extent f) (items t (i + extent f)) → Has t i (here t i f ++ items t (i + extent f))) → Has t i (items t i)
    told f is next step = subst (Has t i) (sym (items_front t i f h is (subst (λ g. 0 < extent g) is some))) (step (subst (λ g. Has t (i + extent g) (items t (i + extent g))) is next))

    go : (v : Bool) → opening (class (byte t i)) ≡ v → Has t (i + extent (front (drop i t))) (items t (i + extent (front (drop i t)))) → Has t i (items t i)
    go true o next = told _ (run_at t i h o) next (run (longest_at t i h o))
    go false o next = told stray_front (front_at t i h ∙ front_stray (class (byte t i)) _ e o) next (stray h (stray_at t i h e o))

-- a lexeme has some bytes
spells_some : (k : Kind) (w : List ℕ) → Spells k w → 0 < length w
spells_some k w (name b bs e is all kind) = omega (arith, ap length e)
spells_some k w (whole d kind) = d.0
spells_some k w (pointed ds es e d f kind) = omega (arith, ap length e, length-append ds (46 ∷ es))
spells_some k w (sign b e is) = omega (arith, ap length e)

-- the longest lexeme at an offset is what stands at the front there
longest_front : (t : List ℕ) (i n : ℕ) (k : Kind) → Longest t i k n → (i < length t) × (0 < n) × (front (drop i t) ≡ run_front k n)
longest_front t i n k l = (inside, some, shown)
  where
    long : length (part t i n) ≡ n
    long = length-take-le n (drop i t) (omega (arith, l.within, length-drop i t))

    some : 0 < n
    some = omega (arith, long, spells_some k (part t i n) l.spelled)

    inside : i < length t
    inside = omega (arith, some, l.within)

    b : Bounded (byte t i) (drop (i + 1) t) k n
    b = bounded_at t i inside k n l.within l.spelled

    best : Longest t i (kind_at t i inside) (length_at t i inside)
    best = longest_at t i inside b.opens

    same : n ≡ length_at t i inside
    same = ⊎_elim (λ less. absurd (l.longest _ _ less best.within best.spelled)) (λ le. omega (arith, b.far)) (cases_lt n (length_at t i inside))

    kind : k ≡ kind_at t i inside
    kind = b.kind ∙ ap (λ m. kind_by (class (byte t i)) (take m (byte t i ∷ drop (i + 1) t))) same

    shown : front (drop i t) ≡ run_front k n
    shown = run_at t i inside b.opens ∙ ap (λ x. run_front x (length_at t i inside)) (sym kind) ∙ ap (run_front k) (sym same)

-- where no lexeme begins, a stray byte stands at the front
no_lexeme_front : (t : List ℕ) (i : ℕ) → i < length t → Stray t i → front (drop i t) ≡ stray_front
no_lexeme_front t i h s = go (opening (class (byte t i))) refl
  where
    go : (v : Bool) → opening (class (byte t i)) ≡ v → front (drop i t) ≡ stray_front
    go true o = let best = longest_at t i h o in absurd (s.no_lexeme _ _ best.within best.spelled)
    go false o = front_at t i h ∙ front_stray (class (byte t i)) _ s.black o

-- what the text has are its items
pub only : (t : List ℕ) {i : ℕ} {xs : List Item} → Has t i xs → xs ≡ items t i
only t end = sym (ends t (length t) refl).none
only t (gap {i = i} h e r) = only t r ∙ sym (items_gap t i h e)
only t (run {i = i} {n = n} {k = k} l r) =
    let f = longest_front t i n k l in
    ap (λ ys. here t i (run_front k n) ++ ys) (only t r) ∙ sym (items_front t i (run_front k n) f.0 f.2 f.1)
only t (stray {i = i} h s r) = ap (λ ys. here t i stray_front ++ ys) (only t r) ∙ sym (items_front t i stray_front h (no_lexeme_front t i h s) (omega arith))
