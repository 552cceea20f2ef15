-- A list of symbols as a kind comes next: what an entry's production, a kind on top and an empty list make of it.
-- Assumes nothing.
use Rattle.std.proofs.Common.{◌≡◌, ℕ, ◌<◌, ◌⊎◌, List, [], ◌∷◌, ◌++◌, sym, refl, ap, ◌∙◌, subst, inl, inr, ⊎_elim, append_assoc, arith}
use mathlib.Core.Logic.{∥∥₁_elim, ∥∥₁_map}
use native.Mathlib.Bridge.{le_prop}
use native.Mathlib.Nat.{ℕ_set}
use Rattle.grammar.specs.Grammar.{Production, Numbered, Derives, done, keep, replace, nth, start, IsKind, IsNonterminal, CanFollow}
use Rattle.grammar.specs.Sheet.{sheet}
use Rattle.grammar.proofs.Tests.{numbered_positive, numbered_nth}
use Rattle.grammar.proofs.Derivations.{nil_cons, derives_refl, derives_append, derives_trans, derives_within, begin_parts}
use Rattle.grammar.proofs.Closed.{left_high}
use Rattle.grammar.proofs.SheetSets.{closed, Known, known_derived}
use Rattle.table.specs.Entry.{Entry}
use Rattle.table.specs.Stack.{Ends, SameFor, Follows, Never}

-- how a list that t begins is derived from one that another symbol begins
pub record Replaced (a : ℕ) (rest : List ℕ) (t : ℕ) (w : List ℕ) : Type 0 where
  pub number : ℕ
  pub production : Production
  pub there : Numbered sheet number production
  pub for_it : production.left ≡ a
  pub so : Derives sheet (production.right ++ rest) (t ∷ w)

-- by keeping it or by one of its productions
invert : {x v : List ℕ} (a : ℕ) (rest : List ℕ) (t : ℕ) (w : List ℕ) → Derives sheet x v → x ≡ a ∷ rest → v ≡ t ∷ w → ((a ≡ t) × Derives sheet rest w) ⊎ Replaced a rest t w
invert a rest t w done e f = absurd (nil_cons e)
invert a rest t w (keep {s = s} {x = x} {w = v} d) e f =
    let ra : s ≡ a = cc in
    let rt : s ≡ t = cc in
    let xs : x ≡ rest = cc in
    let vs : v ≡ w = cc in
    inl (sym ra ∙ rt, subst (λ l. Derives sheet l w) xs (subst (Derives sheet x) vs d))
invert a rest t w (replace {n = n} {p = p} {x = x} {w = v} at d) e f =
    let ra : p.left ≡ a = cc in
    let xs : x ≡ rest = cc in
    inr (record { number = n; production = p; there = at; for_it = ra; so = subst (λ l. Derives sheet (p.right ++ l) (t ∷ w)) xs (subst (Derives sheet (p.right ++ x)) f d) })

-- what can begin the rest below a nonterminal can follow it
follows_ends : (a : ℕ) (rest : List ℕ) (t : ℕ) (w : List ℕ) → IsNonterminal a → IsKind t → ((u : List ℕ) × Derives sheet (start ∷ []) (u ++ a ∷ rest)) → Derives sheet rest (t ∷ w) → CanFollow sheet a t
follows_ends a rest t w high k ends d =
    (ends.0, w, high, k, derives_trans ends.1 (derives_append (derives_refl ends.0) (keep d)))

-- the production by which it is derived is the entry
by_entry : (a : ℕ) (rest : List ℕ) (t e : ℕ) (w : List ℕ) → IsNonterminal a → IsKind t → Ends (a ∷ rest) → Entry a t e → (r : Replaced a rest t w) → r.number ≡ e
by_entry a rest t e w high k ends entry r =
    ⊎_elim
    (λ b. entry.only r.number (r.production, r.there, r.for_it, inl (b.0, k, b.1)))
    (λ n.
    ∥∥₁_elim ends (ℕ_set r.number e)
    (λ u. entry.only r.number (r.production, r.there, r.for_it, inr (n.0, follows_ends a rest t w high k u n.1))))
    (begin_parts r.production.right rest t w r.so)

replaced : (a : ℕ) (rest : List ℕ) (t : ℕ) (w : List ℕ) → IsNonterminal a → IsKind t → Derives sheet (a ∷ rest) (t ∷ w) → Replaced a rest t w
replaced a rest t w high k d =
    ⊎_elim (λ same. let e = same.0 in absurd (omega arith)) (λ r. r) (invert a rest t w d refl refl)

-- where the entry is 0, no list that t begins is derived
pub entry_zero : (a : ℕ) (rest : List ℕ) (t : ℕ) → IsNonterminal a → IsKind t → Ends (a ∷ rest) → Entry a t 0 → Never t (a ∷ rest)
entry_zero a rest t high k ends entry w d =
    let r = replaced a rest t w high k d in
    let e = by_entry a rest t 0 w high k ends entry r in
    let low = numbered_positive r.there in
    omega arith

-- the entry's production may stand for the nonterminal
pub entry_expands : (a : ℕ) (rest : List ℕ) (t e : ℕ) → IsNonterminal a → IsKind t → Ends (a ∷ rest) → Entry a t e → (e ≡ 0 → ⊥) → SameFor t (a ∷ rest) ((nth sheet e).right ++ rest)
entry_expands a rest t e high k ends entry some w = (
  λ d.
      let r = replaced a rest t w high k d in
      let same : nth sheet e ≡ r.production = ap (nth sheet) (sym (by_entry a rest t e w high k ends entry r)) ∙ numbered_nth r.there in
      subst (λ p. Derives sheet (p.right ++ rest) (t ∷ w)) (sym same) r.so,
  λ d.
      let q = entry.is some in
      let same : nth sheet e ≡ q.0 = numbered_nth q.1 in
      subst (λ s. Derives sheet (s ∷ rest) (t ∷ w)) q.2 (replace q.1 (subst (λ p. Derives sheet (p.right ++ rest) (t ∷ w)) same d)),
)

pub ends_expand : (a : ℕ) (rest : List ℕ) (t e : ℕ) → Entry a t e → (e ≡ 0 → ⊥) → Ends (a ∷ rest) → Ends ((nth sheet e).right ++ rest)
ends_expand a rest t e entry some ends =
    let q = entry.is some in
    let same : nth sheet e ≡ q.0 = numbered_nth q.1 in
    ∥∥₁_map ends (λ u. (
      u.0,
      subst (λ p. Derives sheet (start ∷ []) (u.0 ++ (p.right ++ rest))) (sym same)
          (derives_trans (subst (λ s. Derives sheet (start ∷ []) (u.0 ++ s ∷ rest)) (sym q.2) u.1) (derives_within u.0 rest q.1)),
    ))

pub ends_pop : (s : ℕ) (rest : List ℕ) → Ends (s ∷ rest) → Ends rest
ends_pop s rest ends =
    ∥∥₁_map ends (λ u. (u.0 ++ s ∷ [], subst (Derives sheet (start ∷ [])) (sym (append_assoc u.0 (s ∷ []) rest)) u.1))

pub ends_start : Ends (start ∷ [])
ends_start = ∣ ([], derives_refl (start ∷ [])) ∣₁

-- a kind on top has to be the one that comes
kind_top : (s : ℕ) (rest : List ℕ) (t : ℕ) (w : List ℕ) → s < 16 → Derives sheet (s ∷ rest) (t ∷ w) → (s ≡ t) × Derives sheet rest w
kind_top s rest t w low d =
    ⊎_elim
    (λ h. h)
    (λ r. let high = left_high closed r.there in let e = r.for_it in absurd (omega arith))
    (invert s rest t w d refl refl)

pub kind_other : (s : ℕ) (rest : List ℕ) (t : ℕ) → s < 16 → (s ≡ t → ⊥) → Never t (s ∷ rest)
kind_other s rest t low apart w d = apart (kind_top s rest t w low d).0

pub kind_met : (s : ℕ) (rest : List ℕ) (t : ℕ) → s < 16 → s ≡ t → Follows t (s ∷ rest) rest
kind_met s rest t low same w =
    (λ d. (kind_top s rest t w low d).1, λ d. subst (λ k. Derives sheet (s ∷ rest) (k ∷ w)) same (keep d))

nothing : {x v : List ℕ} → Derives sheet x v → x ≡ [] → v ≡ []
nothing done e = refl
nothing (keep d) e = absurd (nil_cons (sym e))
nothing (replace n d) e = absurd (nil_cons (sym e))

pub empty_never : (t : ℕ) → Never t []
empty_never t w d = nil_cons (sym (nothing d refl))

known_prop : (x : List ℕ) → IsProp (Known x)
known_prop [] u v = refl
known_prop (s ∷ x) u v = λ i. (le_prop u.0 v.0 i, le_prop u.1 v.1 i, known_prop x u.2 v.2 i)

known_end : (u x : List ℕ) → Known (u ++ x) → Known x
known_end [] x h = h
known_end (s ∷ u) x h = known_end u x h.2

-- the end of a derived list has only the grammar's symbols
pub ends_known : (x : List ℕ) → Ends x → Known x
ends_known x ends =
    ∥∥₁_elim ends (known_prop x) (λ u. known_end u.0 x (known_derived u.1 (omega arith, omega arith, tt)))
