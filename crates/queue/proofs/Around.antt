-- Elements read round a ring: how many they are, one more behind them, and one less in front.
use Rattle.std.proofs.Common.{◌≡◌, ℕ, suc, ◌+◌, ◌-◌, ◌<◌, ◌≤◌, List, [], ◌∷◌, ◌++◌, length, get_or, take, drop, set, sym, ap, ◌∙◌, inl, inr, arith}
use Rattle.std.proofs.lemmas.List.{length-take-le, length-drop, length-append, length-set, set-append_left, set-append_right, drop-set-add, drop-set-lt, take-set-le, take_more_set, drop_more, drop_at, take-append-le, get_or_append_left}
use Rattle.std.proofs.lemmas.Bool.{cases_lt, lt-ltb, le-ltb, cond-true, cond-false}
use Rattle.queue.specs.Ring.{onward, around}

-- a place k places on comes before the end, or past it and so at the start
data Onward (n i k at : ℕ) : Type 0 where
  below : at ≡ i + k → i + k < n → Onward n i k at
  past : i + k ≡ n + at → Onward n i k at

onwards : (n i k at : ℕ) → at ≡ onward n i k → Onward n i k at
onwards n i k at is =
    elim (cases_lt (i + k) n) [
      | inl before ↦ below (is ∙ cond-true _ _ _ (lt-ltb _ _ before)) before
      | inr after ↦ past (omega (arith, is ∙ cond-false _ _ _ (le-ltb _ _ after)))
    ]

module _ {X : Type 0} (ring : List X) where
  -- a write to a place shows in both rounds
  set_twice : (at : ℕ) (x : X) → at < length ring → set ring at x ++ set ring at x ≡ set (set (ring ++ ring) at x) (length ring + at) x
  set_twice at x inside =
      sym (ap (λ rest. set rest (length ring + at) x) (set-append_left ring ring at x inside)
      ∙ set-append_right (set ring at x) ring (length ring) (length ring + at) x (length-set ring at x) (omega arith)
      ∙ ap (λ p. set ring at x ++ set ring p x) (omega arith))

  module _ (i n : ℕ) (inside : i < length ring) where
    pub length_around : n ≤ length ring → length (around i n ring) ≡ n
    length_around held = length-take-le n (drop i (ring ++ ring)) (simp (length-drop, length-append) (omega arith))

    -- x behind the n elements
    pub put_around : (at : ℕ) (x : X) → n < length ring → at ≡ onward (length ring) i n → around i (n + 1) (set ring at x) ≡ around i n ring ++ x ∷ []
    put_around at x free is =
        let within : n < length (drop i (ring ++ ring)) = simp (length-drop, length-append) (omega arith) in
        elim (onwards (length ring) i n at is) [
          | below here before ↦
              let there : at < length ring = omega arith in
              let later : length ring + at ≡ i + (length ring + n) = omega arith in
              let after : n + 1 ≤ length ring + n = omega arith in
              rw (set_twice at x there, later, drop-set-add, take-set-le, here, drop-set-add, take_more_set)
          | past here ↦
              let there : at < length ring = omega arith in
              let before : at < i = omega arith in
              rw (set_twice at x there, ← here, drop-set-add, drop-set-lt, take_more_set)
        ]

    -- the first, and the others behind it
    first_around : (d : X) → 0 < n → around i n ring ≡ get_or ring i d ∷ around (i + 1) (n - 1) ring
    first_around d some =
        let there : i < length (ring ++ ring) = simp length-append (omega arith) in
        let front : n ≡ suc (n - 1) = omega arith in
        ap (λ rest. take n rest) (drop_more (ring ++ ring) i d there)
        ∙ ap (λ m. take m (get_or (ring ++ ring) i d ∷ drop (i + 1) (ring ++ ring))) front
        ∙ ap (λ x. x ∷ around (i + 1) (n - 1) ring) (get_or_append_left ring ring d i inside)

    -- the others begin at the next place
    next_around : (next : ℕ) → n ≤ length ring → next ≡ onward (length ring) i 1 → around (i + 1) (n - 1) ring ≡ around next (n - 1) ring
    next_around next held is =
        elim (onwards (length ring) i 1 next is) [
          | below here before ↦ ap (λ p. around p (n - 1) ring) (sym here)
          | past here ↦
              let last : length ring ≡ i + 1 = omega arith in
              let fits : n - 1 ≤ length ring = omega arith in
              let start : 0 ≡ next = omega arith in
              ap (λ rest. take (n - 1) rest) (drop_at ring ring (i + 1) last)
              ∙ sym (take-append-le (n - 1) ring ring fits)
              ∙ ap (λ p. around p (n - 1) ring) start
        ]

    pub take_around : (next : ℕ) (d : X) → 0 < n → n ≤ length ring → next ≡ onward (length ring) i 1 → around i n ring ≡ get_or ring i d ∷ around next (n - 1) ring
    take_around next d some held is = first_around d some ∙ ap (λ rest. get_or ring i d ∷ rest) (next_around next held is)

-- a place k places on is a place
pub onward_inside : (n i k at : ℕ) → i < n → k ≤ n → at ≡ onward n i k → at < n
onward_inside n i k at inside within is = elim (onwards n i k at is) [ below here before ↦ omega arith | past here ↦ omega arith ]
