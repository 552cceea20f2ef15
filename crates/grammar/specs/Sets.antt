-- The sheet grammar's sets as the crate keeps them: which nonterminals are nullable, and which kinds can begin and
-- follow each. The contracts of the crate's functions say that these are exactly right.
-- Assumes nothing.
use Rattle.std.specs.Prelude.{ℕ, ◌-◌, cond, List, [], ◌∷◌, nat_lt, slice_index_or}
use Rattle.grammar.specs.Sheet

-- the row of a nonterminal in a table of the ten; other symbols have an empty one
abbrev pub row : List (List ℕ) → ℕ → List ℕ
row rows s = cond (nat_lt s 16) [] (slice_index_or rows (s - 16) [])

-- the nullable nonterminals
abbrev pub nullables : List ℕ
nullables = Sheet.Items ∷ Sheet.More ∷ Sheet.Item ∷ Sheet.Where ∷ Sheet.Tail ∷ Sheet.Comma ∷ []

-- the kinds that can begin what a nonterminal derives, from 16 on
abbrev pub beginner_rows : List (List ℕ)
beginner_rows =
    (3 ∷ []) ∷
    (1 ∷ 5 ∷ []) ∷
    (5 ∷ []) ∷
    (1 ∷ []) ∷
    (8 ∷ 14 ∷ []) ∷
    (13 ∷ []) ∷
    (1 ∷ 2 ∷ 6 ∷ 11 ∷ 15 ∷ []) ∷
    (10 ∷ []) ∷
    (1 ∷ 2 ∷ 6 ∷ 15 ∷ []) ∷
    (9 ∷ []) ∷
    []

-- the kinds that can follow a nonterminal, from 16 on
abbrev pub follower_rows : List (List ℕ)
follower_rows =
    (4 ∷ 5 ∷ 7 ∷ 9 ∷ 10 ∷ 12 ∷ 13 ∷ []) ∷
    (4 ∷ []) ∷
    (4 ∷ []) ∷
    (4 ∷ 5 ∷ []) ∷
    (4 ∷ 5 ∷ []) ∷
    (4 ∷ 5 ∷ []) ∷
    (4 ∷ 5 ∷ 7 ∷ 9 ∷ 13 ∷ []) ∷
    (4 ∷ 5 ∷ 7 ∷ 9 ∷ 13 ∷ []) ∷
    (4 ∷ 5 ∷ 7 ∷ 9 ∷ 10 ∷ 13 ∷ []) ∷
    (7 ∷ []) ∷
    []

-- the kinds that can begin what a symbol derives, for a nonterminal
abbrev pub beginners : ℕ → List ℕ
beginners = row beginner_rows

-- the kinds that can follow a symbol, for a nonterminal
abbrev pub followers : ℕ → List ℕ
followers = row follower_rows
