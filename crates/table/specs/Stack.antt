-- What a stack of symbols means, the top first.
-- Assumes nothing.
use Rattle.std.specs.Prelude.{ℕ, List, [], ◌∷◌, ◌++◌}
use Rattle.grammar.specs.Grammar.{Derives, start}
use Rattle.grammar.specs.Sheet.{sheet}

-- the list ends one that is derived from the start symbol
abbrev pub Ends : List ℕ → Type 0
Ends x = ∥ ((u : List ℕ) × Derives sheet (start ∷ []) (u ++ x)) ∥₁

-- from both lists the same is derived that t begins
abbrev pub SameFor : ℕ → List ℕ → List ℕ → Type 0
SameFor t x y = (w : List ℕ) → (Derives sheet x (t ∷ w) → Derives sheet y (t ∷ w)) × (Derives sheet y (t ∷ w) → Derives sheet x (t ∷ w))

-- y derives what followed t in the lists derived from x
abbrev pub Follows : ℕ → List ℕ → List ℕ → Type 0
Follows t x y = (w : List ℕ) → (Derives sheet x (t ∷ w) → Derives sheet y w) × (Derives sheet y w → Derives sheet x (t ∷ w))

-- no list derived from x begins with t
abbrev pub Never : ℕ → List ℕ → Type 0
Never t x = (w : List ℕ) → Derives sheet x (t ∷ w) → ⊥
