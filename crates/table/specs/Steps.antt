-- The steps as the crate keeps them: a row for each nonterminal from 16 on, a column for each kind, and the first column
-- for none. What they mean is said in Comes.
-- Assumes nothing.
use Rattle.std.specs.Prelude.{ℕ, ◌-◌, List, [], ◌∷◌, slice_index, slice_index_or}

-- 0 for rejected, 1 for vanishing, and from 2 on met, with a number of what is left
abbrev pub step_rows : List (List ℕ)
step_rows =
    (0 ∷ 0 ∷ 0 ∷ 8 ∷ 0 ∷ 0 ∷ 0 ∷ 0 ∷ 0 ∷ 0 ∷ 0 ∷ 0 ∷ 0 ∷ 0 ∷ 0 ∷ 0 ∷ []) ∷
    (0 ∷ 9 ∷ 0 ∷ 0 ∷ 1 ∷ 4 ∷ 0 ∷ 0 ∷ 0 ∷ 0 ∷ 0 ∷ 0 ∷ 0 ∷ 0 ∷ 0 ∷ 0 ∷ []) ∷
    (0 ∷ 0 ∷ 0 ∷ 0 ∷ 1 ∷ 4 ∷ 0 ∷ 0 ∷ 0 ∷ 0 ∷ 0 ∷ 0 ∷ 0 ∷ 0 ∷ 0 ∷ 0 ∷ []) ∷
    (0 ∷ 5 ∷ 0 ∷ 0 ∷ 1 ∷ 1 ∷ 0 ∷ 0 ∷ 0 ∷ 0 ∷ 0 ∷ 0 ∷ 0 ∷ 0 ∷ 0 ∷ 0 ∷ []) ∷
    (0 ∷ 0 ∷ 0 ∷ 0 ∷ 0 ∷ 0 ∷ 0 ∷ 0 ∷ 10 ∷ 0 ∷ 0 ∷ 0 ∷ 0 ∷ 0 ∷ 3 ∷ 0 ∷ []) ∷
    (0 ∷ 0 ∷ 0 ∷ 0 ∷ 1 ∷ 1 ∷ 0 ∷ 0 ∷ 0 ∷ 0 ∷ 0 ∷ 0 ∷ 0 ∷ 3 ∷ 0 ∷ 0 ∷ []) ∷
    (0 ∷ 7 ∷ 7 ∷ 0 ∷ 0 ∷ 0 ∷ 15 ∷ 0 ∷ 0 ∷ 0 ∷ 0 ∷ 13 ∷ 0 ∷ 0 ∷ 0 ∷ 11 ∷ []) ∷
    (0 ∷ 0 ∷ 0 ∷ 0 ∷ 1 ∷ 1 ∷ 0 ∷ 1 ∷ 0 ∷ 1 ∷ 6 ∷ 0 ∷ 0 ∷ 1 ∷ 0 ∷ 0 ∷ []) ∷
    (0 ∷ 2 ∷ 2 ∷ 0 ∷ 0 ∷ 0 ∷ 14 ∷ 0 ∷ 0 ∷ 0 ∷ 0 ∷ 0 ∷ 0 ∷ 0 ∷ 0 ∷ 3 ∷ []) ∷
    (0 ∷ 0 ∷ 0 ∷ 0 ∷ 0 ∷ 0 ∷ 0 ∷ 1 ∷ 0 ∷ 12 ∷ 0 ∷ 0 ∷ 0 ∷ 0 ∷ 0 ∷ 0 ∷ []) ∷
    []

-- what can be left, by its number
abbrev pub lefts : List (List ℕ)
lefts =
    [] ∷
    (16 ∷ []) ∷
    (17 ∷ []) ∷
    (20 ∷ []) ∷
    (22 ∷ []) ∷
    (23 ∷ []) ∷
    (17 ∷ 4 ∷ []) ∷
    (20 ∷ 18 ∷ []) ∷
    (22 ∷ 21 ∷ []) ∷
    (16 ∷ 23 ∷ []) ∷
    (22 ∷ 25 ∷ []) ∷
    (16 ∷ 12 ∷ 22 ∷ []) ∷
    (22 ∷ 25 ∷ 7 ∷ []) ∷
    (22 ∷ 25 ∷ 7 ∷ 23 ∷ []) ∷
    []

-- the symbols of this number, the first of them first; none for a number that has none
abbrev pub left_of : ℕ → List ℕ
left_of n = slice_index_or lefts n []

-- the number of what a nonterminal comes to
abbrev pub step_at : ℕ → ℕ → ℕ
step_at a t = slice_index (slice_index_or step_rows (a - 16) []) t
