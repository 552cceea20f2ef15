-- What a step means, wherever its symbol stands on a stack.
-- Assumes nothing.
use Rattle.std.specs.Prelude.{ℕ, ◌≤◌, List, [], ◌∷◌, ◌++◌, length, reverse}
use Rattle.table.specs.Stack.{Ends, SameFor, Follows, Never}
use Rattle.table.specs.declared.steps.Step.{Step}
use Rattle.table.specs.declared.steps.Step.TheVariants.{Rejected, Vanishes, Meets}

-- as t comes next, some symbols before the rest leave these, the last first and four at most: they and the rest derive what followed t
abbrev pub Leaves : ℕ → List ℕ → List ℕ → List ℕ → Type 0
Leaves t x rest left = (length left ≤ 4) × Follows t (x ++ rest) (reverse left ++ rest) × Ends (reverse left ++ rest)

-- as t comes next, some symbols before the rest come to this step: no list derived from them all begins with t; the same such lists are derived from the rest alone; or the kind is met and some are left
abbrev pub Makes : ℕ → List ℕ → List ℕ → Step → Type 0
Makes t x rest Rejected = Never t (x ++ rest)
Makes t x rest Vanishes = SameFor t (x ++ rest) rest
Makes t x rest (Meets left) = Leaves t x rest left.now

-- the symbol a comes to this step, whatever is below it
abbrev pub Comes : ℕ → ℕ → Step → Type 0
Comes a t s = (rest : List ℕ) → Ends (a ∷ rest) → Makes t (a ∷ []) rest s
