-- The contexts of a draft. Assumes nothing.
use Rattle.std.proofs.Common.{◌≡◌, ℕ, zero, suc, ◌+◌, ◌<◌, ◌≤◌, eqb, Bool, true, false, cond, ltb, List, [], ◌∷◌, ◌++◌, length, get_or, take, drop, is_some, Some, None, Option, sym, refl, ap, ◌∙◌, add-one, arith, length-append, length-take}
use Rattle.std.proofs.Math.Seq.{get_or-append_seam}
use mir.Val.{bool_byte}
use Rattle.std.proofs.lemmas.Bool.{cond_both, eq-eqb, eqb-true, ltb-false, ltb-true, ne_eqb, true≢false}
use Rattle.std.proofs.lemmas.List.{get_or_append_left, take-append-drop, take_all}
use Rattle.std.proofs.lemmas.List.Sums.{count_by_more_no, count_by_more_yes, length-filter}
use Rattle.std.specs.List.{count_by, filter}
use Rattle.layout.specs.Contexts.{idle, implicit_among, stack, stacked}
use Rattle.layout.specs.Drafts.{with_opened}

pub length_stack : (cs : List ℕ) (d : ℕ) → length (stack cs d) ≡ d
length_stack cs zero = refl
length_stack cs (suc d) = ap suc (length_stack cs d)

-- one that was opened is one more
pub opened_length : (o : Option ℕ) (ks : List ℕ) → length (with_opened o ks) ≡ length ks + bool_byte (is_some o)
opened_length a b = grind arith

-- contexts behind the first do not show
pub stack_front : (xs ys : List ℕ) (d : ℕ) → d ≤ length xs → stack (xs ++ ys) d ≡ stack xs d
stack_front xs ys zero h = refl
stack_front xs ys (suc d) h = λ j. get_or_append_left xs ys 0 d (omega arith) j ∷ stack_front xs ys d (omega arith) j

-- the first contexts alone
pub stacked_take : (cs : List ℕ) (d : ℕ) → d ≤ length cs → stacked (take d cs) ≡ stack cs d
stacked_take cs d h =
    let long : length (take d cs) ≡ d = omega (arith, length-take d cs) in
    ap (stack (take d cs)) long ∙ sym (stack_front (take d cs) (drop d cs) d (omega arith)) ∙ ap (λ xs. stack xs d) (take-append-drop d cs)

-- one more context
pub stacked_push : (cs : List ℕ) (v : ℕ) → stacked (cs ++ v ∷ []) ≡ v ∷ stacked cs
stacked_push cs v =
    let long : length (cs ++ v ∷ []) ≡ suc (length cs) = omega (arith, length-append cs (v ∷ [])) in
    ap (stack (cs ++ v ∷ [])) long ∙ (λ i. get_or-append_seam cs v [] 0 i ∷ stack_front cs (v ∷ []) (length cs) (omega arith) i)

-- an open sheet may have any contexts
pub idle_open : (o : Option ℕ) (cs : List ℕ) → is_some o ≡ true → idle o cs ≡ true
idle_open a b c = grind arith

-- no more of them are implicit than there are
pub implicit_few : (ks : List ℕ) → implicit_among ks ≤ length ks
implicit_few [] = omega arith
implicit_few (k ∷ ks) = cond_both (eqb k 0) 0 1 (λ n. n + implicit_among ks ≤ suc (length ks)) (λ e. omega (arith, implicit_few ks)) (λ e. omega (arith, implicit_few ks))

-- one context more is counted or not
implicit_more : (cs : List ℕ) (d : ℕ) → d < length cs → implicit_among (stack cs d) ≡ count_by (ltb 0) (take d cs) → (b : Bool) → ltb 0 (get_or cs d 0) ≡ b → implicit_among (stack cs (suc d)) ≡ count_by (ltb 0) (take (suc d) cs)
implicit_more cs d h so true e =
    let more = ap (λ n. count_by (ltb 0) (take n cs)) (add-one d) in
    omega (arith, so, more, count_by_more_yes (ltb 0) cs d 0 h e, ap {B = ℕ} (λ x. cond x 0 1) (ne_eqb (get_or cs d 0) 0 (λ z. omega (arith, ltb-true 0 (get_or cs d 0) e))))
implicit_more cs d h so false e =
    let more = ap (λ n. count_by (ltb 0) (take n cs)) (add-one d) in
    omega (arith, so, more, count_by_more_no (ltb 0) cs d 0 h e, ap {B = ℕ} (λ x. cond x 0 1) (eq-eqb (get_or cs d 0) 0 (omega (arith, ltb-false 0 (get_or cs d 0) e))))

implicit_count : (cs : List ℕ) (d : ℕ) → d ≤ length cs → implicit_among (stack cs d) ≡ count_by (ltb 0) (take d cs)
implicit_count cs zero h = refl
implicit_count cs (suc d) h = implicit_more cs d (omega arith) (implicit_count cs d (omega arith)) (ltb 0 (get_or cs d 0)) refl

-- as many as stand among the contexts
pub implicit_among_filter : (cs : List ℕ) → length (filter (ltb 0) cs) ≡ implicit_among (stacked cs)
implicit_among_filter cs = length-filter (ltb 0) cs ∙ ap (count_by (ltb 0)) (sym (take_all (length cs) cs (omega arith))) ∙ sym (implicit_count cs (length cs) (omega arith))

empty : (cs : List ℕ) → length cs ≡ 0 → cs ≡ []
empty [] e = refl
empty (c ∷ cs) e = absurd (omega arith)

-- without a sheet no block is open
pub idle_none : (o : Option ℕ) (cs : List ℕ) → idle o cs ≡ true → is_some o ≡ false → cs ≡ []
idle_none None cs e no-sheet = empty cs (eqb-true (length cs) 0 e)
idle_none (Some n) cs e no-sheet = absurd (true≢false no-sheet)
