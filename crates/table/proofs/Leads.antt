-- The rule of the steps, proved at all of them by one test that antt computes from the table and the productions, and
-- carried to each.
-- Assumes nothing.
use Rattle.std.proofs.Common.{◌≡◌, ℕ, zero, suc, ◌+◌, ◌<◌, ◌≤◌, Bool, true, false, ◌&&◌, eqb, ltb, leb, bytes_eq, List, [], ◌∷◌, ◌++◌, length, reverse, sym, refl, ◌∙◌, subst, append_assoc, arith}
use mathlib.Core.Bool.{false≢true}
use Rattle.std.proofs.lemmas.List.{length-reverse}
use Rattle.std.proofs.lemmas.Slice.Eq.{bytes_eq-Decides}
use Rattle.std.proofs.lemmas.Bool.{and_parts, eqb-true, eqb-false, ltb-true, ltb-false, leb-true}
use Rattle.grammar.specs.Grammar.{Production, Numbered, Derives, replace, IsKind, nth}
use Rattle.grammar.specs.Sheet.{sheet}
use Rattle.grammar.proofs.Tests.{below, numbered_nth}
use Rattle.grammar.proofs.Derivations.{derives_refl}
use Rattle.grammar.proofs.SheetSets.{Known, known_derived}
use Rattle.table.specs.Entry.{Entry}
use Rattle.table.specs.Stack.{Ends, SameFor, Follows, Never}
use Rattle.table.specs.Steps.{left_of, step_at}
use Rattle.table.specs.Comes.{Leaves}
use Rattle.table.specs.Expands.{Expands, stays, expands, Stuck}
use Rattle.table.proofs.Rule.{cell, at_cell, entry_at, entry_none}
use Rattle.table.proofs.Expand.{entry_zero, entry_expands, ends_expand, ends_pop, ends_known, kind_other, kind_met}

-- what the step of a number means: as t comes next, the symbols before the rest are rejected, vanish, or are met
abbrev pub MakesBy : ℕ → List ℕ → List ℕ → ℕ → Type 0
MakesBy t x rest zero = Never t (x ++ rest)
MakesBy t x rest (suc zero) = SameFor t (x ++ rest) rest
MakesBy t x rest (suc (suc n)) = (length (left_of n) ≤ 4) × Follows t (x ++ rest) (left_of n ++ rest) × Ends (left_of n ++ rest)

-- the nonterminal a comes to the step of this number, whatever is below it
abbrev pub ComesBy : ℕ → ℕ → ℕ → Type 0
ComesBy a t s = (rest : List ℕ) → Ends (a ∷ rest) → MakesBy t (a ∷ []) rest s

-- the number's step rejects the kind
abbrev rejects : ℕ → Bool
rejects zero = true
rejects (suc zero) = false
rejects (suc (suc n)) = false

-- it passes over the nonterminal
abbrev vanishes : ℕ → Bool
vanishes zero = false
vanishes (suc zero) = true
vanishes (suc (suc n)) = false

-- it meets the kind and leaves these symbols
abbrev leaves : List ℕ → ℕ → Bool
leaves x zero = false
leaves x (suc zero) = false
leaves x (suc (suc n)) = leb (length (left_of n)) 4 && bytes_eq x (left_of n)

-- by whether a kind stands first, whether it is the kind that comes, and whether the entry is 0
abbrev at_top : Bool → Bool → Bool → List ℕ → ℕ → (Unit {0} → Bool) → Bool
at_top true true z x s on = leaves x s
at_top true false z x s on = rejects s
at_top false b true x s on = rejects s
at_top false b false x s on = on tt

-- the test that the table's expansions of a list lead to the step, with so many symbols looked at
abbrev leads : ℕ → ℕ → List ℕ → ℕ → Bool
leads zero t x s = false
leads (suc n) t [] s = vanishes s
leads (suc n) t (a ∷ x) s =
    at_top (ltb a 16) (eqb a t) (eqb (cell a t) 0) x s (λ _. leads n t ((nth sheet (cell a t)).right ++ x) s)

all_lead : below (λ i. below (λ j. leads 4 (j + 1) ((i + 16) ∷ []) (step_at (i + 16) (j + 1))) 15) 10 ≡ true
all_lead = refl

makes_vanishing : (t : ℕ) (rest : List ℕ) (s : ℕ) → vanishes s ≡ true → MakesBy t [] rest s
makes_vanishing t rest zero e = absurd (false≢true e)
makes_vanishing t rest (suc zero) e = λ w. (λ d. d, λ d. d)
makes_vanishing t rest (suc (suc n)) e = absurd (false≢true e)

makes_met : (a t : ℕ) (x rest : List ℕ) (s : ℕ) → ltb a 16 ≡ true → eqb a t ≡ true → Ends (a ∷ (x ++ rest)) → leaves x s ≡ true → MakesBy t (a ∷ x) rest s
makes_met a t x rest zero low same ends e = absurd (false≢true e)
makes_met a t x rest (suc zero) low same ends e = absurd (false≢true e)
makes_met a t x rest (suc (suc n)) low same ends e =
    let parts = and_parts (leb (length (left_of n)) 4) (bytes_eq x (left_of n)) e in
    let met = kind_met a (x ++ rest) t (ltb-true a 16 low) (eqb-true a t same) in
    subst (λ y. (length (left_of n) ≤ 4) × Follows t (a ∷ (x ++ rest)) (y ++ rest) × Ends (y ++ rest)) ((bytes_eq-Decides x (left_of n)).0 parts.1)
    (leb-true (length (left_of n)) 4 parts.0, met, ends_pop a (x ++ rest) ends)

makes_never : (t : ℕ) (x rest : List ℕ) (s : ℕ) → Never t (x ++ rest) → rejects s ≡ true → MakesBy t x rest s
makes_never t x rest zero never e = never
makes_never t x rest (suc zero) never e = absurd (false≢true e)
makes_never t x rest (suc (suc n)) never e = absurd (false≢true e)

-- from lists of which the same is derived, the same is made
makes_same : (t : ℕ) (x y rest : List ℕ) (s : ℕ) → SameFor t (x ++ rest) (y ++ rest) → MakesBy t y rest s → MakesBy t x rest s
makes_same t x y rest zero same h = λ w d. h w ((same w).0 d)
makes_same t x y rest (suc zero) same h = λ w. (λ d. (h w).0 ((same w).0 d), λ d. (same w).1 ((h w).1 d))
makes_same t x y rest (suc (suc n)) same h =
    (h.0, λ w. (λ d. (h.1 w).0 ((same w).0 d), λ d. (same w).1 ((h.1 w).1 d)), h.2)

module _ (a t : ℕ) (x rest : List ℕ) (s : ℕ) (k : IsKind t) (ends : Ends (a ∷ (x ++ rest))) where
  entry_of : (ltb a 16 ≡ false) → Entry a t (cell a t)
  entry_of high = entry_at a t (ltb-false a 16 high) (ends_known (a ∷ (x ++ rest)) ends).1 k.0 k.1

  makes_top : (b c z : Bool) → ltb a 16 ≡ b → eqb a t ≡ c → eqb (cell a t) 0 ≡ z → (on : Unit {0} → Bool)
      → (Ends (((nth sheet (cell a t)).right ++ x) ++ rest) → on tt ≡ true → MakesBy t ((nth sheet (cell a t)).right ++ x) rest s) → at_top b c z x s on ≡ true → MakesBy t (a ∷ x) rest s
  makes_top true true z low same entry on more e = makes_met a t x rest s low same ends e
  makes_top true false z low other entry on more e =
      makes_never t (a ∷ x) rest s (kind_other a (x ++ rest) t (ltb-true a 16 low) (eqb-false a t other)) e
  makes_top false c true high same entry on more e =
      makes_never t (a ∷ x) rest s (entry_zero a (x ++ rest) t (ltb-false a 16 high) k ends (subst (Entry a t) (eqb-true (cell a t) 0 entry) (entry_of high))) e
  makes_top false c false high same entry on more e =
      let some = eqb-false (cell a t) 0 entry in
      let whole = sym (append_assoc (nth sheet (cell a t)).right x rest) in
      let same = entry_expands a (x ++ rest) t (cell a t) (ltb-false a 16 high) k ends (entry_of high) some in
      let then = ends_expand a (x ++ rest) t (cell a t) (entry_of high) some ends in
      makes_same t (a ∷ x) ((nth sheet (cell a t)).right ++ x) rest s (subst (SameFor t (a ∷ (x ++ rest))) whole same) (more (subst Ends whole then) e)

-- what passes the test is made
leads_makes : (n t : ℕ) (x rest : List ℕ) (s : ℕ) → IsKind t → Ends (x ++ rest) → leads n t x s ≡ true → MakesBy t x rest s
leads_makes zero t x rest s k ends e = absurd (false≢true e)
leads_makes (suc n) t [] rest s k ends e = makes_vanishing t rest s e
leads_makes (suc n) t (a ∷ x) rest s k ends e =
    makes_top a t x rest s k ends (ltb a 16) (eqb a t) (eqb (cell a t) 0) refl refl refl (λ _. leads n t ((nth sheet (cell a t)).right ++ x) s)
    (λ then. leads_makes n t ((nth sheet (cell a t)).right ++ x) rest s k then) e

-- the rule at each step
pub step_at_lem : (a t : ℕ) → 16 ≤ a → a ≤ 25 → IsKind t → ComesBy a t (step_at a t)
step_at_lem a t low high k rest ends =
    leads_makes 4 t (a ∷ []) rest (step_at a t) k ends (at_cell (λ a t. leads 4 t (a ∷ []) (step_at a t)) all_lead a t low high k)

-- and so at a number that was read
pub step_by : {a t n k : ℕ} → 16 ≤ a → (a ≤ 25) × IsKind t → n ≡ step_at a t → n ≡ k → ComesBy a t k
step_by {a} {t} low known read is =
    subst (ComesBy a t) (sym read ∙ is) (step_at_lem a t low known.0 known.1)

-- symbols that are kept the last first are what is left by their number
pub left_kept : (a t n : ℕ) (ys rest : List ℕ) → reverse ys ≡ left_of n → Ends (a ∷ rest) → ComesBy a t (suc (suc n)) → Leaves t (a ∷ []) rest ys
left_kept a t n ys rest is ends comes =
    let long = length-reverse ys in
    let h = subst (λ x. (length x ≤ 4) × Follows t (a ∷ rest) (x ++ rest) × Ends (x ++ rest)) (sym is) (comes rest ends) in
    (omega (arith, h.0), h.1, h.2)

all_few : below (λ i. below (λ j. ltb (step_at (i + 16) (j + 1)) 16) 15) 10 ≡ true
all_few = refl

-- a step's number is below 16
pub step_few : (a t : ℕ) → 16 ≤ a → a ≤ 25 → IsKind t → step_at a t < 16
step_few a t low high k = ltb-true (step_at a t) 16 (at_cell (λ a t. ltb (step_at a t) 16) all_few a t low high k)

-- what the step of a number says of the entries: they end at a symbol, leave none, or come to t and what is left
abbrev pub LedTo : ℕ → List ℕ → ℕ → Type 0
LedTo t x zero = Stuck t x
LedTo t x (suc zero) = Expands t x []
LedTo t x (suc (suc n)) = Expands t x (t ∷ left_of n)

led_vanishing : (t s : ℕ) → vanishes s ≡ true → LedTo t [] s
led_vanishing t zero e = absurd (false≢true e)
led_vanishing t (suc zero) e = stays
led_vanishing t (suc (suc n)) e = absurd (false≢true e)

led_at : (a t : ℕ) (x : List ℕ) (s : ℕ) → a ≡ t → leaves x s ≡ true → LedTo t (a ∷ x) s
led_at a t x zero same e = absurd (false≢true e)
led_at a t x (suc zero) same e = absurd (false≢true e)
led_at a t x (suc (suc n)) same e =
    let parts = and_parts (leb (length (left_of n)) 4) (bytes_eq x (left_of n)) e in
    let left = (bytes_eq-Decides x (left_of n)).0 parts.1 in
    subst (λ b. Expands t (a ∷ x) (b ∷ left_of n)) same (subst (λ y. Expands t (a ∷ x) (a ∷ y)) left stays)

led_stuck : (a t : ℕ) (x : List ℕ) (s : ℕ) → (a ≡ t → ⊥) → Entry a t 0 → rejects s ≡ true → LedTo t (a ∷ x) s
led_stuck a t x zero other entry e = record { first = a; others = x; comes = stays; other = other; no_entry = entry }
led_stuck a t x (suc zero) other entry e = absurd (false≢true e)
led_stuck a t x (suc (suc n)) other entry e = absurd (false≢true e)

-- expanded once, and then on
led_on : (a t n : ℕ) (p : Production) (x : List ℕ) (s : ℕ) → Entry a t n → Numbered sheet n p → LedTo t (p.right ++ x) s → LedTo t (a ∷ x) s
led_on a t n p x zero entry at h =
    record { first = h.first; others = h.others; comes = expands entry at h.comes; other = h.other; no_entry = h.no_entry }
led_on a t n p x (suc zero) entry at h = expands entry at h
led_on a t n p x (suc (suc m)) entry at h = expands entry at h

module _ (a t : ℕ) (x : List ℕ) (s : ℕ) (k : IsKind t) (known : Known (a ∷ x)) where
  entry_here : (ltb a 16 ≡ false) → Entry a t (cell a t)
  entry_here high = entry_at a t (ltb-false a 16 high) known.1 k.0 k.1

  led_top : (b c z : Bool) → ltb a 16 ≡ b → eqb a t ≡ c → eqb (cell a t) 0 ≡ z → (on : Unit {0} → Bool)
      → (Known ((nth sheet (cell a t)).right ++ x) → on tt ≡ true → LedTo t ((nth sheet (cell a t)).right ++ x) s) → at_top b c z x s on ≡ true → LedTo t (a ∷ x) s
  led_top true true z low same entry on more e = led_at a t x s (eqb-true a t same) e
  led_top true false z low other entry on more e =
      led_stuck a t x s (eqb-false a t other) (entry_none a t (λ low' high first last. omega (arith, ltb-true a 16 low))) e
  led_top false c true high same entry on more e =
      led_stuck a t x s (λ is. omega (arith, is, k.1, ltb-false a 16 high)) (subst (Entry a t) (eqb-true (cell a t) 0 entry) (entry_here high)) e
  led_top false c false high same entry on more e =
      let q = (entry_here high).is (eqb-false (cell a t) 0 entry) in
      let is : nth sheet (cell a t) ≡ q.0 = numbered_nth q.1 in
      let one : Derives sheet (a ∷ x) (q.0.right ++ x) = subst (λ b. Derives sheet (b ∷ x) (q.0.right ++ x)) q.2 (replace q.1 (derives_refl (q.0.right ++ x))) in
      let then : Known ((nth sheet (cell a t)).right ++ x) = subst (λ p. Known (p.right ++ x)) (sym is) (known_derived one known) in
      led_on a t (cell a t) q.0 x s (entry_here high) q.1 (subst (λ p. LedTo t (p.right ++ x) s) is (more then e))

-- what passes the test is what the entries lead to
leads_led : (n t : ℕ) (x : List ℕ) (s : ℕ) → IsKind t → Known x → leads n t x s ≡ true → LedTo t x s
leads_led zero t x s k known e = absurd (false≢true e)
leads_led (suc n) t [] s k known e = led_vanishing t s e
leads_led (suc n) t (a ∷ x) s k known e =
    led_top a t x s k known (ltb a 16) (eqb a t) (eqb (cell a t) 0) refl refl refl (λ _. leads n t ((nth sheet (cell a t)).right ++ x) s)
    (λ then. leads_led n t ((nth sheet (cell a t)).right ++ x) s k then) e

-- the entries lead to each step
step_led : (a t : ℕ) → 16 ≤ a → a ≤ 25 → IsKind t → LedTo t (a ∷ []) (step_at a t)
step_led a t low high k =
    leads_led 4 t (a ∷ []) (step_at a t) k (omega (arith, low), high, tt) (at_cell (λ a t. leads 4 t (a ∷ []) (step_at a t)) all_lead a t low high k)

-- and so to a number that was read
pub led_by : {a t n k : ℕ} → 16 ≤ a → (a ≤ 25) × IsKind t → n ≡ step_at a t → n ≡ k → LedTo t (a ∷ []) k
led_by {a} {t} low known read is =
    subst (LedTo t (a ∷ [])) (sym read ∙ is) (step_led a t low known.0 known.1)

-- what is left by its number is so too where it is kept the last first
pub led_met : (a t n : ℕ) (ys : List ℕ) → reverse ys ≡ left_of n → LedTo t (a ∷ []) (suc (suc n)) → Expands t (a ∷ []) (t ∷ reverse ys)
led_met a t n ys is led = subst (λ x. Expands t (a ∷ []) (t ∷ x)) (sym is) led

-- a kind is met by itself, and by no other
pub kind_led : (a t : ℕ) → a ≡ t → Expands t (a ∷ []) (t ∷ [])
kind_led a t same = subst (λ b. Expands t (a ∷ []) (b ∷ [])) same stays

pub kind_stuck : (a t : ℕ) → a < 16 → (a ≡ t → ⊥) → Stuck t (a ∷ [])
kind_stuck a t low other =
    record { first = a; others = []; comes = stays; other = other; no_entry = entry_none a t (λ low' high first last. omega (arith, low)) }
