-- Readings one after another. Assumes nothing.
use Rattle.std.proofs.Common.{◌≡◌, ℕ, zero, suc, ◌+◌, ◌<◌, ◌≤◌, true, List, [], ◌∷◌, ◌++◌, map, length, is_some, Ok, Err, sym, refl, ap, ◌∙◌, subst, append_assoc, arith}
use Rattle.std.proofs.lemmas.Bool.{false≢true}
use Rattle.reader.specs.Items.{Item, good, bad, items}
use Rattle.reader.specs.Laws.{begins, come_to, takes, tell, tells, told}
use Rattle.reader.specs.Reading.{Reading, reading}
use Rattle.reader.proofs.Chains.{Chain, at_end, by_gap, by_item, chain, item_within, stands}
use Rattle.reader.proofs.Finds.{ends, solid}
use Rattle.reader.proofs.Steps.{items_gap}

-- one reading tells a part of what is left, and goes on behind that
pub record Piece (t : List ℕ) (i n : ℕ) (r : Reading) : Type 0 where
  pub whole : tells r ++ map tell (items t r.next) ≡ map tell (items t i)
  pub onward : i ≤ r.next
  pub within : r.next ≤ length t
  pub forward : 0 < n → is_some r.stop ≡ true → i < r.next

-- the reading of items that come first of what is left
piece_as : (t : List ℕ) (i n : ℕ) (xs : List Item) → items t i ≡ xs → Piece t i n (reading (length t) n xs) → Piece t i n (reading (length t) n (items t i))
piece_as t i n xs e p = subst (λ ys. Piece t i n (reading (length t) n ys)) (sym e) p

module _ (t : List ℕ) (i k : ℕ) (some : 0 < k) (within : i + k ≤ length t) where
  piece_item : (x : Item) → begins x ≡ i → takes x ≡ k → items t i ≡ x ∷ items t (i + k) → (n : ℕ) → ((m : ℕ) → Piece t (i + k) m (reading (length t) m (items t (i + k)))) → Piece t i n (reading (length t) n (x ∷ items t (i + k)))
  piece_item (bad j m f) at long told n rest =
      let on : j + m ≡ i + k = omega arith in
      record {
        whole = ap (λ h. Err f ∷ map tell (items t h)) on ∙ sym (ap (map tell) told);
        onward = omega arith;
        within = omega arith;
        forward = λ h e. omega arith;
      }
  piece_item (good l) at long told zero rest =
      record {
        whole = ap (λ h. map tell (items t h)) at;
        onward = omega arith;
        within = omega arith;
        forward = λ h e. absurd (omega arith);
      }
  piece_item (good l) at long told (suc n) rest =
      let r = rest n in
      record {
        whole = ap (λ ys. Ok l ∷ ys) r.whole ∙ sym (ap (map tell) told);
        onward = omega (arith, r.onward);
        within = r.within;
        forward = λ h e. omega (arith, r.onward);
      }

pub piece : (t : List ℕ) {i : ℕ} → Chain t i → (n : ℕ) → Piece t i n (reading (length t) n (items t i))
piece t at_end n =
    let none = (ends t (length t) refl).none in
    piece_as t (length t) n [] none (record { whole = refl; onward = omega arith; within = omega arith; forward = λ h e. absurd (false≢true e) })
piece t (by_gap {i = i} h e c) n =
    let r = piece t c n in
    let same = items_gap t i h e in
    subst (λ ys. Piece t i n (reading (length t) n ys)) (sym same) (record {
      whole = r.whole ∙ sym (ap (map tell) same);
      onward = omega (arith, r.onward);
      within = r.within;
      forward = λ l f. omega (arith, r.onward);
    })
piece t (by_item {i = i} h e c) n =
    let s = stands t i h e in
    piece_as t i n _ s.told (piece_item t i _ (solid t i h e).some (item_within t i h) s.item s.at s.long s.told n (piece t c))

-- any readings tell what the text has, up to where they come to
pub pieces : (t : List ℕ) (i : ℕ) → i ≤ length t → (ns : List ℕ) → told t i ns ++ map tell (items t (come_to t i ns)) ≡ map tell (items t i)
pieces t i h [] = refl
pieces t i h (n ∷ ns) =
    let r = piece t (chain t i h) n in
    let next = (reading (length t) n (items t i)).next in
    append_assoc (tells (reading (length t) n (items t i))) (told t next ns) (map tell (items t (come_to t next ns)))
    ∙ ap (λ ys. tells (reading (length t) n (items t i)) ++ ys) (pieces t next r.within ns) ∙ r.whole
