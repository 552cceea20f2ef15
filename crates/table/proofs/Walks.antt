-- What a walk keeps.
-- Assumes nothing.
use Rattle.std.proofs.Common.{◌≡◌, ℕ, ◌≤◌, List, [], ◌∷◌, ◌++◌, length, take, reverse, sym, ap, ◌∙◌, subst, append_assoc, length-append, arith}
use Rattle.std.proofs.lemmas.List.{reverse-append}
use Rattle.std.proofs.Math.Seq.{take-append_seam}
use Rattle.grammar.specs.Grammar.{IsKind}
use Rattle.table.specs.declared.steps.Step.TheVariants.{Rejected, Vanishes}
use Rattle.table.specs.Stack.{Ends, SameFor, Follows, Never}
use Rattle.table.specs.Comes.{Leaves, Comes}
use Rattle.table.specs.Walk.{Found}
use Rattle.table.proofs.Expand.{ends_pop, ends_known}

-- what was passed vanished: the same may follow that the kind begins
pub record Walking (kind : ℕ) (stack rest : List ℕ) : Type 0 where
  pub passed : List ℕ
  pub whole : stack ≡ rest ++ passed
  pub same : SameFor kind (reverse stack) (reverse rest)
  pub ends : Ends (reverse rest)

module _ {kind : ℕ} {stack rest : List ℕ} (below : List ℕ) (s : ℕ) (w : Walking kind stack rest) (top : rest ≡ below ++ s ∷ []) where
  from_top : reverse rest ≡ s ∷ reverse below
  from_top = ap reverse top ∙ reverse-append below (s ∷ [])

  from_bottom : stack ≡ below ++ s ∷ w.passed
  from_bottom = w.whole ∙ ap (λ l. l ++ w.passed) top ∙ append_assoc below (s ∷ []) w.passed

  here_ends : Ends (s ∷ reverse below)
  here_ends = subst Ends from_top w.ends

  here_same : SameFor kind (reverse stack) (s ∷ reverse below)
  here_same = subst (SameFor kind (reverse stack)) from_top w.same

  -- the symbol is one of the grammar's
  pub here_known : s ≤ 25
  here_known = (ends_known (s ∷ reverse below) here_ends).1

  -- the symbol rejects the kind
  pub walk_refused : Comes s kind Rejected → Never kind (reverse stack)
  walk_refused comes v d = comes (reverse below) here_ends v ((here_same v).0 d)

  -- it vanishes
  pub walk_goes_on : Comes s kind Vanishes → Walking kind stack below
  walk_goes_on comes =
      let gone = comes (reverse below) here_ends in
      record {
        passed = s ∷ w.passed;
        whole = from_bottom;
        same = λ v. (λ d. (gone v).0 ((here_same v).0 d), λ d. (here_same v).1 ((gone v).1 d));
        ends = ends_pop s (reverse below) here_ends;
      }

  -- the kind is met
  pub walk_finds : (left : List ℕ) → IsKind kind → ((r : List ℕ) → Ends (s ∷ r) → Leaves kind (s ∷ []) r left) → Found kind stack (length below) left
  walk_finds left k comes =
      let h = comes (reverse below) here_ends in
      let front : take (length below) stack ≡ below = ap (take (length below)) from_bottom ∙ take-append_seam below (s ∷ w.passed) in
      let now : reverse left ++ reverse below ≡ reverse (take (length below) stack ++ left) = sym (ap (λ l. reverse (l ++ left)) front ∙ reverse-append below left) in
      let long = ap length from_bottom in
      record {
        is_kind = k;
        follows = subst (Follows kind (reverse stack)) now (λ v. (λ d. (h.1 v).0 ((here_same v).0 d), λ d. (here_same v).1 ((h.1 v).1 d)));
        ends = subst Ends now h.2;
        few = h.0;
        deeper = omega (arith, length-append below (s ∷ w.passed));
      }
