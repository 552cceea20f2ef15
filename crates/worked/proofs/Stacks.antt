-- The sheet grammar's test of what is viable: a stack of symbols, after some kinds, by the table. Assumes nothing.
use Rattle.std.proofs.Common.{◌≡◌, ℕ, zero, suc, ◌<◌, ◌≤◌, Bool, true, false, ◌&&◌, eqb, ltb, leb, List, [], ◌∷◌, ◌++◌, is_some, Some, None, Decides, Option, sym, refl, subst, arith}
use mathlib.Core.Bool.{false≢true}
use Rattle.std.specs.List.{list_all}
use Rattle.std.proofs.lemmas.List.{append_assoc, append-nil}
use Rattle.grammar.specs.Grammar.{IsKind, among, LanguageOf, start}
use Rattle.grammar.specs.Sets.{nullables}
use Rattle.grammar.specs.Sheet.{sheet}
use Rattle.grammar.proofs.SheetSets.{kinds_derived, null, vanishes_exact}
use Rattle.table.specs.Level.{remains}
use Rattle.table.specs.Stack.{Ends, Follows, Never, SameFor}
use Rattle.table.specs.Steps.{left_of, step_at}
use Rattle.table.proofs.Expand.{empty_never, ends_known, ends_pop, ends_start, kind_met, kind_other}
use Rattle.table.proofs.Leads.{ComesBy, step_at_lem}
use Rattle.layout.specs.Rules.{Viable}
use Rattle.worked.proofs.Tells.{Tells, tells_at_most, tells_below, tells_both, tells_equal}

-- a kind comes where a symbol stands first: by whether that is a kind, whether it is the kind that comes, and which step a nonterminal comes to
abbrev pub at_top : Bool → Bool → ℕ → List ℕ → (Unit {0} → Option (List ℕ)) → Option (List ℕ)
at_top true true s x on = Some x
at_top true false s x on = None
at_top false b zero x on = None
at_top false b (suc zero) x on = on tt
at_top false b (suc (suc n)) x on = Some (left_of n ++ x)

-- the stack after a kind
abbrev pub meet : ℕ → List ℕ → Option (List ℕ)
meet t [] = None
meet t (s ∷ x) = at_top (ltb s 16) (eqb s t) (step_at s t) x (λ _. meet t x)

-- only a kind is taken
abbrev pub if_kind : Bool → (Unit {0} → Option (List ℕ)) → Option (List ℕ)
if_kind true on = on tt
if_kind false on = None

abbrev pub taken : ℕ → List ℕ → Option (List ℕ)
taken t x = if_kind (leb 1 t && leb t 15) (λ _. meet t x)

abbrev pub and_then : Option (List ℕ) → (List ℕ → Option (List ℕ)) → Option (List ℕ)
and_then None on = None
and_then (Some y) on = on y

-- the stack after some kinds
abbrev pub stack_after : List ℕ → List ℕ → Option (List ℕ)
stack_after x [] = Some x
stack_after x (t ∷ u) = and_then (taken t x) (λ y. stack_after y u)

abbrev pub viable? : List ℕ → ℕ → Bool
viable? u k = is_some (stack_after (start ∷ []) (u ++ k ∷ []))

-- every symbol of the stack is nullable
abbrev pub empties : Option (List ℕ) → Bool
empties None = false
empties (Some y) = list_all (λ s. among s nullables) y

abbrev pub complete? : List ℕ → Bool
complete? u = empties (stack_after (start ∷ []) u)

-- what is left of the walk over one kind
abbrev Meets : ℕ → List ℕ → Option (List ℕ) → Type 0
Meets t x None = Never t x
Meets t x (Some y) = Ends y × Follows t x y

meets_same : {t : ℕ} {x y : List ℕ} (o : Option (List ℕ)) → SameFor t x y → Meets t y o → Meets t x o
meets_same None same h = λ w d. h w ((same w).0 d)
meets_same (Some z) same h = (h.0, λ w. (λ d. (h.1 w).0 ((same w).0 d), λ d. (same w).1 ((h.1 w).1 d)))

meets_top : (s t : ℕ) (x : List ℕ) (a b : Bool) (c : ℕ) (on : Unit {0} → Option (List ℕ)) → Ends (s ∷ x) → Tells a (s < 16) → Tells b (s ≡ t) → ((s < 16 → ⊥) → ComesBy s t c) → Meets t x (on tt) → Meets t (s ∷ x) (at_top a b c x on)
meets_top s t x true true c on ends low same step h = (ends_pop s x ends, kind_met s x t low same)
meets_top s t x true false c on ends low other step h = kind_other s x t low other
meets_top s t x false b zero on ends high same step h = step high x ends
meets_top s t x false b (suc zero) on ends high same step h = meets_same (on tt) (step high x ends) h
meets_top s t x false b (suc (suc n)) on ends high same step h = let met = step high x ends in (met.2, met.1)

meet_so : (t : ℕ) (x : List ℕ) → IsKind t → Ends x → Meets t x (meet t x)
meet_so t [] k ends = empty_never t
meet_so t (s ∷ x) k ends =
    let known = ends_known (s ∷ x) ends in
    meets_top s t x (ltb s 16) (eqb s t) (step_at s t) (λ _. meet t x) ends (tells_below s 16) (tells_equal s t) (λ high. step_at_lem s t (omega arith) known.1 k) (meet_so t x k (ends_pop s x ends))

-- the stack after some kinds derives what followed them; where there is none, nothing begins with them
abbrev Leads : List ℕ → List ℕ → Option (List ℕ) → Type 0
Leads x u None = (w : List ℕ) → remains x (u ++ w) → ⊥
Leads x u (Some y) = Ends y × ((w : List ℕ) → (remains x (u ++ w) → remains y w) × (remains y w → remains x (u ++ w)))

leads_one : (t : ℕ) (x : List ℕ) (o : Option (List ℕ)) → IsKind t → Meets t x o → Leads x (t ∷ []) o
leads_one t x None k h = λ w d. h w d.0
leads_one t x (Some y) k h = (h.0, λ w. (λ d. ((h.1 w).0 d.0, d.1.1), λ d. ((h.1 w).1 d.0, (k, d.1))))

leads_kind : (t : ℕ) (x : List ℕ) (b : Bool) (on : Unit {0} → Option (List ℕ)) → Tells b (IsKind t) → (IsKind t → Meets t x (on tt)) → Leads x (t ∷ []) (if_kind b on)
leads_kind t x true on k h = leads_one t x (on tt) k (h k)
leads_kind t x false on k h = λ w d. k d.1.0

leads_then : (t : ℕ) (x u : List ℕ) (o : Option (List ℕ)) (on : List ℕ → Option (List ℕ)) → Leads x (t ∷ []) o → ((y : List ℕ) → Ends y → Leads y u (on y)) → Leads x (t ∷ u) (and_then o on)
leads_then t x u None on h more = λ w d. h (u ++ w) d
leads_then t x u (Some y) on h more = both (on y) (more y h.0)
  where
    both : (o : Option (List ℕ)) → Leads y u o → Leads x (t ∷ u) o
    both None g = λ w d. g w ((h.1 (u ++ w)).0 d)
    both (Some z) g = (g.0, λ w. (λ d. (g.1 w).0 ((h.1 (u ++ w)).0 d), λ d. (h.1 (u ++ w)).1 ((g.1 w).1 d)))

leads : (x u : List ℕ) → Ends x → Leads x u (stack_after x u)
leads x [] ends = (ends, λ w. (λ d. d, λ d. d))
leads x (t ∷ u) ends =
    leads_then t x u (taken t x) (λ y. stack_after y u)
    (leads_kind t x (leb 1 t && leb t 15) (λ _. meet t x) (tells_both (1 ≤ t) (t ≤ 15) (leb 1 t) (leb t 15) (tells_at_most 1 t) (tells_at_most t 15)) (λ k. meet_so t x k ends))
    (λ y ends'. leads y u ends')

leads_viable : (u : List ℕ) (k : ℕ) (o : Option (List ℕ)) → Leads (start ∷ []) (u ++ k ∷ []) o → Decides (is_some o) (Viable (LanguageOf sheet) u k)
leads_viable u k None h = (λ e. absurd (false≢true e), λ v. absurd (h v.0 (subst (LanguageOf sheet) (sym (append_assoc u (k ∷ []) v.0)) v.1)))
leads_viable u k (Some y) h =
    let some = kinds_derived y (ends_known y h.0) in
    (λ _. (some.0, subst (LanguageOf sheet) (append_assoc u (k ∷ []) some.0) ((h.1 some.0).1 (some.1, some.2))), λ _. refl)

pub viable_sure : (u : List ℕ) (k : ℕ) → Decides (viable? u k) (Viable (LanguageOf sheet) u k)
viable_sure u k = leads_viable u k (stack_after (start ∷ []) (u ++ k ∷ [])) (leads (start ∷ []) (u ++ k ∷ []) ends_start)

leads_complete : (u : List ℕ) (o : Option (List ℕ)) → Leads (start ∷ []) u o → Decides (empties o) (LanguageOf sheet u)
unfolding null
leads_complete u None h = (λ e. absurd (false≢true e), λ d. absurd (h [] (subst (LanguageOf sheet) (sym (append-nil u)) d)))
leads_complete u (Some y) h =
    let exact = vanishes_exact y in
    (λ e. subst (LanguageOf sheet) (append-nil u) ((h.1 []).1 (exact.0 e, tt)), λ d. exact.1 ((h.1 []).0 (subst (LanguageOf sheet) (sym (append-nil u)) d)).0)

pub complete_sure : (u : List ℕ) → Decides (complete? u) (LanguageOf sheet u)
complete_sure u = leads_complete u (stack_after (start ∷ []) u) (leads (start ∷ []) u ends_start)
