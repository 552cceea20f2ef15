-- The sheet grammar's sets are exact: every member has a script that shows it, and the sets are closed, so that there
-- are no other members.
-- Assumes nothing.
use Rattle.std.proofs.Common.{◌≡◌, ℕ, ◌≤◌, Bool, true, false, ◌&&◌, eqb, leb, List, [], ◌∷◌, ◌++◌, Decides, sym, refl, subst, ⊎_elim, arith, eqb-true, le-leb, leb-true}
use borrow.Author.Tests.{both_ways}
use Rattle.std.specs.List.{list_all}
use Rattle.std.proofs.lemmas.Bool.{and_parts, or_cases, cases_lt}
use Rattle.grammar.specs.Grammar.{Derives, done, keep, replace, IsKind, IsNonterminal, Kinds, start, Nullable, CanBegin, CanFollow, among}
use Rattle.grammar.specs.Sheet.{sheet}
use Rattle.grammar.specs.Sets.{nullables, beginner_rows, follower_rows, beginners, followers}
use Rattle.grammar.proofs.Tests.{implies, implied, below, at_below, at_each}
use Rattle.grammar.proofs.Derivations.{derives_refl, derives_append}
use Rattle.grammar.proofs.Closed.{Closed, leads, begins, vanishes_back, begins_sound, follow_sound}
use Rattle.grammar.proofs.Scripts.{plays, played, play}
use Rattle.grammar.proofs.Witnessed.{Witness, script, member, row_member, row_high, is_empty, is_empty_lem, headed, is_headed, adjacent, is_adjacent, is_kind, is_kind_lem, all_kinds_lem}

-- from a nonterminal to the empty list
abbrev to_nothing : List Witness
to_nothing =
    (17, 0, 2 ∷ 6 ∷ 4 ∷ []) ∷
    (18, 0, 4 ∷ []) ∷
    (19, 0, 6 ∷ []) ∷
    (21, 0, 10 ∷ []) ∷
    (23, 0, 14 ∷ []) ∷
    (25, 0, 20 ∷ []) ∷
    []

-- from a nonterminal to a list that the kind begins
abbrev to_begin : List Witness
to_begin =
    (16, 3, 1 ∷ []) ∷
    (17, 1, 2 ∷ 5 ∷ []) ∷
    (17, 5, 2 ∷ 6 ∷ 3 ∷ []) ∷
    (18, 5, 3 ∷ []) ∷
    (19, 1, 5 ∷ []) ∷
    (20, 8, 8 ∷ []) ∷
    (20, 14, 7 ∷ []) ∷
    (21, 13, 9 ∷ []) ∷
    (22, 1, 12 ∷ 15 ∷ []) ∷
    (22, 2, 12 ∷ 16 ∷ []) ∷
    (22, 6, 12 ∷ 18 ∷ []) ∷
    (22, 11, 11 ∷ []) ∷
    (22, 15, 12 ∷ 17 ∷ []) ∷
    (23, 10, 13 ∷ []) ∷
    (24, 1, 15 ∷ []) ∷
    (24, 2, 16 ∷ []) ∷
    (24, 6, 18 ∷ []) ∷
    (24, 15, 17 ∷ []) ∷
    (25, 9, 19 ∷ []) ∷
    []

-- from the start symbol to a list in which the kind follows the nonterminal
abbrev to_follow : List Witness
to_follow =
    (16, 4, 1 ∷ 0 ∷ 2 ∷ 5 ∷ 0 ∷ 7 ∷ 0 ∷ 0 ∷ 4 ∷ []) ∷
    (16, 5, 1 ∷ 0 ∷ 2 ∷ 5 ∷ 0 ∷ 7 ∷ 0 ∷ 0 ∷ 3 ∷ []) ∷
    (16, 7, 1 ∷ 0 ∷ 2 ∷ 5 ∷ 0 ∷ 8 ∷ 0 ∷ 12 ∷ 18 ∷ 0 ∷ 12 ∷ 17 ∷ 0 ∷ 0 ∷ 14 ∷ 20 ∷ []) ∷
    (16, 9, 1 ∷ 0 ∷ 2 ∷ 5 ∷ 0 ∷ 8 ∷ 0 ∷ 12 ∷ 18 ∷ 0 ∷ 12 ∷ 17 ∷ 0 ∷ 0 ∷ 14 ∷ 19 ∷ []) ∷
    (16, 10, 1 ∷ 0 ∷ 2 ∷ 5 ∷ 0 ∷ 8 ∷ 0 ∷ 12 ∷ 17 ∷ 0 ∷ 0 ∷ 13 ∷ []) ∷
    (16, 12, 1 ∷ 0 ∷ 2 ∷ 5 ∷ 0 ∷ 8 ∷ 0 ∷ 11 ∷ []) ∷
    (16, 13, 1 ∷ 0 ∷ 2 ∷ 5 ∷ 0 ∷ 8 ∷ 0 ∷ 12 ∷ 17 ∷ 0 ∷ 0 ∷ 14 ∷ 9 ∷ []) ∷
    (17, 4, 1 ∷ []) ∷
    (18, 4, 1 ∷ 0 ∷ 2 ∷ []) ∷
    (19, 4, 1 ∷ 0 ∷ 2 ∷ 0 ∷ 4 ∷ []) ∷
    (19, 5, 1 ∷ 0 ∷ 2 ∷ 0 ∷ 3 ∷ []) ∷
    (20, 4, 1 ∷ 0 ∷ 2 ∷ 5 ∷ 0 ∷ 0 ∷ 4 ∷ []) ∷
    (20, 5, 1 ∷ 0 ∷ 2 ∷ 5 ∷ 0 ∷ 0 ∷ 3 ∷ []) ∷
    (21, 4, 1 ∷ 0 ∷ 2 ∷ 5 ∷ 0 ∷ 8 ∷ 0 ∷ 0 ∷ 0 ∷ 4 ∷ []) ∷
    (21, 5, 1 ∷ 0 ∷ 2 ∷ 5 ∷ 0 ∷ 8 ∷ 0 ∷ 0 ∷ 0 ∷ 3 ∷ []) ∷
    (22, 4, 1 ∷ 0 ∷ 2 ∷ 5 ∷ 0 ∷ 8 ∷ 0 ∷ 0 ∷ 10 ∷ 4 ∷ []) ∷
    (22, 5, 1 ∷ 0 ∷ 2 ∷ 5 ∷ 0 ∷ 8 ∷ 0 ∷ 0 ∷ 10 ∷ 3 ∷ []) ∷
    (22, 7, 1 ∷ 0 ∷ 2 ∷ 5 ∷ 0 ∷ 8 ∷ 0 ∷ 12 ∷ 18 ∷ 0 ∷ 0 ∷ 20 ∷ []) ∷
    (22, 9, 1 ∷ 0 ∷ 2 ∷ 5 ∷ 0 ∷ 8 ∷ 0 ∷ 12 ∷ 18 ∷ 0 ∷ 0 ∷ 19 ∷ []) ∷
    (22, 13, 1 ∷ 0 ∷ 2 ∷ 5 ∷ 0 ∷ 8 ∷ 0 ∷ 0 ∷ 9 ∷ []) ∷
    (23, 4, 1 ∷ 0 ∷ 2 ∷ 5 ∷ 0 ∷ 8 ∷ 0 ∷ 12 ∷ 0 ∷ 0 ∷ 10 ∷ 4 ∷ []) ∷
    (23, 5, 1 ∷ 0 ∷ 2 ∷ 5 ∷ 0 ∷ 8 ∷ 0 ∷ 12 ∷ 0 ∷ 0 ∷ 10 ∷ 3 ∷ []) ∷
    (23, 7, 1 ∷ 0 ∷ 2 ∷ 5 ∷ 0 ∷ 8 ∷ 0 ∷ 12 ∷ 18 ∷ 0 ∷ 12 ∷ 0 ∷ 0 ∷ 20 ∷ []) ∷
    (23, 9, 1 ∷ 0 ∷ 2 ∷ 5 ∷ 0 ∷ 8 ∷ 0 ∷ 12 ∷ 18 ∷ 0 ∷ 12 ∷ 0 ∷ 0 ∷ 19 ∷ []) ∷
    (23, 13, 1 ∷ 0 ∷ 2 ∷ 5 ∷ 0 ∷ 8 ∷ 0 ∷ 12 ∷ 0 ∷ 0 ∷ 9 ∷ []) ∷
    (24, 4, 1 ∷ 0 ∷ 2 ∷ 5 ∷ 0 ∷ 8 ∷ 0 ∷ 12 ∷ 0 ∷ 14 ∷ 10 ∷ 4 ∷ []) ∷
    (24, 5, 1 ∷ 0 ∷ 2 ∷ 5 ∷ 0 ∷ 8 ∷ 0 ∷ 12 ∷ 0 ∷ 14 ∷ 10 ∷ 3 ∷ []) ∷
    (24, 7, 1 ∷ 0 ∷ 2 ∷ 5 ∷ 0 ∷ 8 ∷ 0 ∷ 12 ∷ 18 ∷ 0 ∷ 12 ∷ 0 ∷ 14 ∷ 20 ∷ []) ∷
    (24, 9, 1 ∷ 0 ∷ 2 ∷ 5 ∷ 0 ∷ 8 ∷ 0 ∷ 12 ∷ 18 ∷ 0 ∷ 12 ∷ 0 ∷ 14 ∷ 19 ∷ []) ∷
    (24, 10, 1 ∷ 0 ∷ 2 ∷ 5 ∷ 0 ∷ 8 ∷ 0 ∷ 12 ∷ 0 ∷ 13 ∷ []) ∷
    (24, 13, 1 ∷ 0 ∷ 2 ∷ 5 ∷ 0 ∷ 8 ∷ 0 ∷ 12 ∷ 0 ∷ 14 ∷ 9 ∷ []) ∷
    (25, 7, 1 ∷ 0 ∷ 2 ∷ 5 ∷ 0 ∷ 8 ∷ 0 ∷ 12 ∷ 18 ∷ []) ∷
    []

-- from a nonterminal to a list of kinds
abbrev to_kinds : List Witness
to_kinds =
    (16, 0, 1 ∷ 0 ∷ 2 ∷ 6 ∷ 4 ∷ []) ∷
    (17, 0, 2 ∷ 6 ∷ 4 ∷ []) ∷
    (18, 0, 4 ∷ []) ∷
    (19, 0, 6 ∷ []) ∷
    (20, 0, 7 ∷ 0 ∷ 1 ∷ 0 ∷ 2 ∷ 6 ∷ 4 ∷ []) ∷
    (21, 0, 10 ∷ []) ∷
    (22, 0, 12 ∷ 15 ∷ 0 ∷ 14 ∷ []) ∷
    (23, 0, 14 ∷ []) ∷
    (24, 0, 15 ∷ []) ∷
    (25, 0, 20 ∷ []) ∷
    []

unfoldable pub null : ℕ → Bool
null s = among s nullables

unfoldable pub begin : ℕ → ℕ → Bool
begin s t = among t (beginners s)

unfoldable pub follow : ℕ → ℕ → Bool
follow s t = among t (followers s)

pub closed : Closed sheet null begin follow
unfolding null begin follow
closed = record { lefts = refl; nulls = refl; begun = refl; followed = refl }

-- what a script has to come to
abbrev null_by : ℕ → Bool
null_by s =
    let by = script to_nothing s 0 in
    plays sheet by (s ∷ []) && is_empty (played sheet by (s ∷ []))

abbrev begin_by : ℕ → ℕ → Bool
begin_by s t =
    let by = script to_begin s t in
    is_kind t && (plays sheet by (s ∷ []) && headed t (played sheet by (s ∷ [])))

abbrev follow_by : ℕ → ℕ → Bool
follow_by s t =
    let by = script to_follow s t in
    is_kind t && (plays sheet by (start ∷ []) && adjacent s t (played sheet by (start ∷ [])))

abbrev kinds_by : ℕ → Bool
kinds_by s =
    let by = script to_kinds s 0 in
    plays sheet by (s ∷ []) && list_all is_kind (played sheet by (s ∷ []))

all_null : list_all null_by nullables ≡ true
all_null = refl

all_begin : below (λ s. list_all (begin_by s) (beginners s)) 26 ≡ true
all_begin = refl

all_follow : below (λ s. list_all (follow_by s) (followers s)) 26 ≡ true
all_follow = refl

all_productive : below (λ s. implies (leb 16 s) (kinds_by s)) 26 ≡ true
all_productive = refl

pub null_derives : (s : ℕ) → null s ≡ true → Derives sheet (s ∷ []) []
unfolding null
null_derives s e =
    let by = script to_nothing s 0 in
    let parts = and_parts (plays sheet by (s ∷ [])) (is_empty (played sheet by (s ∷ []))) (member null_by nullables s all_null e) in
    subst (Derives sheet (s ∷ [])) (is_empty_lem (played sheet by (s ∷ [])) parts.1) (play sheet by (s ∷ []) parts.0)

begin_derives : (s t : ℕ) → begin s t ≡ true → CanBegin sheet (s ∷ []) t
unfolding begin
begin_derives s t e =
    let by = script to_begin s t in
    let passed = row_member begin_by beginner_rows s t refl all_begin e in
    let parts = and_parts (is_kind t) (plays sheet by (s ∷ []) && headed t (played sheet by (s ∷ []))) passed in
    let both = and_parts (plays sheet by (s ∷ [])) (headed t (played sheet by (s ∷ []))) parts.1 in
    let v = is_headed t (played sheet by (s ∷ [])) both.1 in
    (v.0, is_kind_lem t parts.0, subst (Derives sheet (s ∷ [])) v.1 (play sheet by (s ∷ []) both.0))

follow_derives : (s t : ℕ) → follow s t ≡ true → CanFollow sheet s t
unfolding follow
follow_derives s t e =
    let by = script to_follow s t in
    let passed = row_member follow_by follower_rows s t refl all_follow e in
    let parts = and_parts (is_kind t) (plays sheet by (start ∷ []) && adjacent s t (played sheet by (start ∷ []))) passed in
    let both = and_parts (plays sheet by (start ∷ [])) (adjacent s t (played sheet by (start ∷ []))) parts.1 in
    let v = is_adjacent s t (played sheet by (start ∷ [])) both.1 in
    (v.0, v.1, row_high follower_rows s t e, is_kind_lem t parts.0, subst (Derives sheet (start ∷ [])) v.2 (play sheet by (start ∷ []) both.0))

-- every symbol up to 25 derives some list of kinds
pub productive : (s : ℕ) → 1 ≤ s → s ≤ 25 → (w : List ℕ) × Derives sheet (s ∷ []) w × Kinds w
productive s low high =
    ⊎_elim
    (λ h. (s ∷ [], derives_refl (s ∷ []), ((low, omega arith), tt)))
    (λ h.
    let by = script to_kinds s 0 in
    let passed = implied (leb 16 s) (kinds_by s) (at_below (λ s. implies (leb 16 s) (kinds_by s)) 26 s all_productive (omega arith)) (le-leb 16 s h) in
    let parts = and_parts (plays sheet by (s ∷ [])) (list_all is_kind (played sheet by (s ∷ []))) passed in
    (played sheet by (s ∷ []), play sheet by (s ∷ []) parts.0, all_kinds_lem (played sheet by (s ∷ [])) parts.1))
    (cases_lt s 16)

-- nullable exactly as the set has it
pub null_exact : (s : ℕ) → Decides (among s nullables) (Nullable sheet (s ∷ []))
unfolding null
null_exact s = (null_derives s, λ d. (and_parts (null s) true (vanishes_back closed d refl)).0)

leads_nonterminal : (s t : ℕ) → IsNonterminal s → IsKind t → leads begin s t ≡ true → begin s t ≡ true
leads_nonterminal s t high k e =
    ⊎_elim (λ same. absurd (omega (arith, eqb-true s t same))) (λ h. h) (or_cases (eqb s t) (begin s t) e)

begin_only : (s t : ℕ) → IsNonterminal s → CanBegin sheet (s ∷ []) t → begin s t ≡ true
begin_only s t high b =
    ⊎_elim
    (leads_nonterminal s t high b.1)
    (λ h. absurd (both_ways false refl (and_parts (null s) false h).1))
    (or_cases (leads begin s t) (null s && false) (begins_sound closed t b.1 b.2))

-- begins a nonterminal exactly as the set has it
pub begin_exact : (s t : ℕ) → Decides (among t (beginners s)) (IsNonterminal s × CanBegin sheet (s ∷ []) t)
unfolding begin
begin_exact s t = (λ e. (row_high beginner_rows s t e, begin_derives s t e), λ b. begin_only s t b.0 b.1)

-- follows exactly as the set has it
pub follow_exact : (s t : ℕ) → Decides (among t (followers s)) (CanFollow sheet s t)
unfolding follow
follow_exact s t = (follow_derives s t, follow_sound closed s t)

pub follow_test : (s t : ℕ) → Decides (follow s t) (CanFollow sheet s t)
follow_test s t = (follow_derives s t, follow_sound closed s t)

-- a list derives the empty list where all its symbols are nullable
vanishes_derives : (x : List ℕ) → list_all null x ≡ true → Derives sheet x []
vanishes_derives [] e = done
vanishes_derives (s ∷ x) e =
    let parts = and_parts (null s) (list_all null x) e in
    derives_append (null_derives s parts.0) (vanishes_derives x parts.1)

pub vanishes_exact : (x : List ℕ) → Decides (list_all null x) (Nullable sheet x)
vanishes_exact x = (vanishes_derives x, λ d. vanishes_back closed d refl)

leads_derives : (s t : ℕ) → IsKind t → leads begin s t ≡ true → CanBegin sheet (s ∷ []) t
leads_derives s t k e =
    ⊎_elim
    (λ same. ([], k, subst (λ a. Derives sheet (a ∷ []) (t ∷ [])) (sym (eqb-true s t same)) (derives_refl (t ∷ []))))
    (begin_derives s t)
    (or_cases (eqb s t) (begin s t) e)

begins_derives : (x : List ℕ) (t : ℕ) → IsKind t → begins null begin x t ≡ true → CanBegin sheet x t
begins_derives [] t k e = absurd (both_ways false refl e)
begins_derives (s ∷ x) t k e =
    ⊎_elim
    (λ l. let b = leads_derives s t k l in (b.0 ++ x, k, derives_append b.2 (derives_refl x)))
    (λ r.
    let parts = and_parts (null s) (begins null begin x t) r in
    let b = begins_derives x t k parts.1 in
    (b.0, k, derives_append (null_derives s parts.0) b.2))
    (or_cases (leads begin s t) (null s && begins null begin x t) e)

-- a kind can begin what a list derives exactly as the sets say
pub begins_exact : (x : List ℕ) (t : ℕ) → IsKind t → Decides (begins null begin x t) (CanBegin sheet x t)
begins_exact x t k = (begins_derives x t k, λ b. begins_sound closed t k b.2)

-- every symbol of the list is one of the grammar's
abbrev pub Known : List ℕ → Type 0
Known [] = Unit {0}
Known (s ∷ x) = (1 ≤ s) × (s ≤ 25) × Known x

abbrev known : ℕ → Bool
known s = leb 1 s && leb s 25

known_is : (x : List ℕ) → list_all known x ≡ true → Known x
known_is [] e = tt
known_is (s ∷ x) e =
    let parts = and_parts (known s) (list_all known x) e in
    let both = and_parts (leb 1 s) (leb s 25) parts.0 in
    (leb-true 1 s both.0, leb-true s 25 both.1, known_is x parts.1)

known_append : (x y : List ℕ) → Known x → Known y → Known (x ++ y)
known_append [] y h k = k
known_append (s ∷ x) y h k = (h.0, h.1, known_append x y h.2 k)

-- derived lists have no other symbols
pub known_derived : {x w : List ℕ} → Derives sheet x w → Known x → Known w
known_derived done h = h
known_derived (keep d) h = (h.0, h.1, known_derived d h.2)
known_derived (replace {p = p} {x = x} n d) h =
    known_derived d (known_append p.right x (known_is p.right (at_each (λ n p. list_all known p.right) sheet refl n)) h.2)

-- a list of the grammar's symbols derives some list of kinds
pub kinds_derived : (x : List ℕ) → Known x → (w : List ℕ) × Derives sheet x w × Kinds w
kinds_derived [] h = ([], done, tt)
kinds_derived (s ∷ x) h =
    let one = productive s h.0 h.1 in
    let rest = kinds_derived x h.2 in
    (one.0 ++ rest.0, derives_append one.1 rest.1, kinds_append one.0 rest.0 one.2 rest.2)
  where
    kinds_append : (u v : List ℕ) → Kinds u → Kinds v → Kinds (u ++ v)
    kinds_append [] v h k = k
    kinds_append (s ∷ u) v h k = (h.0, kinds_append u v h.1 k)
