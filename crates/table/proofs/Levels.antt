-- A stack laid anew, and what is viable at it.
-- Assumes nothing.
use Rattle.std.proofs.Common.{◌≡◌, ℕ, ◌-◌, List, [], ◌∷◌, ◌++◌, take, reverse, Option, Some, None, MatchOption, is_some, Decides, sym, refl, subst}
use mathlib.Core.Bool.{false≢true}
use Rattle.std.specs.List.{list_all}
use Rattle.std.proofs.lemmas.Bool.{and_parts, and_from}
use Rattle.std.proofs.lemmas.List.{reverse-append}
use Rattle.grammar.specs.Grammar.{Derives, done, Kinds, IsKind, among, start}
use Rattle.grammar.specs.Sets.{nullables}
use Rattle.grammar.specs.Sheet.{sheet}
use Rattle.grammar.proofs.Derivations.{derives_append, null_parts}
use Rattle.grammar.proofs.SheetSets.{kinds_derived, null_exact}
use Rattle.parser.specs.Sets.{Begins}
use Rattle.parser.specs.Meaning.{Alike, absent, taken}
use Rattle.parser.proofs.Meanings.{same_refl}
use Rattle.table.specs.Stack.{Ends, Never, Follows}
use Rattle.table.specs.Walk.{Found}
use Rattle.table.specs.declared.walk.Met.{Met}
use Rattle.table.specs.Level.{remains, means}
use Rattle.table.proofs.Expand.{ends_start, ends_known}

pub ends_same : {x y : List ℕ} → y ≡ x → Ends (reverse x) → Ends (reverse y)
ends_same e ends = subst (λ l. Ends (reverse l)) (sym e) ends

-- the start symbol alone ends one
pub ends_fresh : {items : List ℕ} → items ≡ start ∷ [] → Ends (reverse items)
ends_fresh e = ends_same e ends_start

-- a stack that ends a derived list derives some list of kinds
some_kinds : (x : List ℕ) → Ends x → (w : List ℕ) × Derives sheet x w × Kinds w
some_kinds x ends = kinds_derived x (ends_known x ends)

-- a kind that is met is viable
pub met_viable : {kind : ℕ} {stack : List ℕ} {below : ℕ} {left : List ℕ} → Found kind stack below left → Begins (remains (reverse stack)) kind
met_viable {kind} {stack} {below} {left} m =
    let some = some_kinds (reverse (take below stack ++ left)) m.ends in
    (some.0, ((m.follows some.0).1 some.1, (m.is_kind, some.2)))

-- and one that is not is not
pub viable_so : (kind : ℕ) (stack : List ℕ) (met : Option Met) → MatchOption met (IsKind kind → Never kind (reverse stack)) (λ m. Found kind stack m.below m.left.now) → Decides (is_some met) (Begins (remains (reverse stack)) kind)
viable_so kind stack None never = (λ e. absurd (false≢true e), λ b. absurd (never b.1.1.0 b.0 b.1.0))
viable_so kind stack (Some m) found = (λ _. met_viable found, λ _. refl)

-- the stack derives the empty list where each of its symbols does
pub empties_so : (stack : List ℕ) → Decides (list_all (λ s. among s nullables) stack) (remains (reverse stack) [])
empties_so [] = (λ _. (done, tt), λ _. refl)
empties_so (s ∷ stack) =
    let one = null_exact s in
    let more = empties_so stack in
    let last : reverse (s ∷ stack) ≡ reverse stack ++ s ∷ [] = reverse-append (s ∷ []) stack in
    let ends : (reverse stack ++ s ∷ []) ≡ reverse (s ∷ stack) = sym last in (
      λ t.
          let parts = and_parts (among s nullables) (list_all (λ s. among s nullables) stack) t in
          (subst (λ l. Derives sheet l []) ends (derives_append (more.0 parts.1).0 (one.0 parts.0)), tt),
      λ d.
          let parts = null_parts (reverse stack) (s ∷ []) (subst (λ l. Derives sheet l []) last d.0) in
          and_from (among s nullables) (list_all (λ s. among s nullables) stack) (one.1 parts.1) (more.1 (parts.0, tt)),
    )

-- a kind that is met is taken
pub took : {kind : ℕ} (n : ℕ) {stack now : List ℕ} {below : ℕ} {left : List ℕ} → Found kind stack below left → now ≡ take below stack ++ left → Alike (means (reverse now) (n - 1) absent) (taken kind (means (reverse stack) n absent))
took {kind} n {stack} {now} m is =
    let follows : Follows kind (reverse stack) (reverse now) = subst (λ l. Follows kind (reverse stack) (reverse l)) (sym is) m.follows in
    record {
      language = same_refl _;
      reach = refl;
      remainder = λ w. (λ d. ((follows w).1 d.0, (m.is_kind, d.1)), λ d. ((follows w).0 d.0, d.1.1));
      left = refl;
      mark = tt;
    }
