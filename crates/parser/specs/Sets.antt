-- Sets of lists of kinds. Two are compared list by list, never as wholes.
-- Assumes nothing.
use Rattle.std.specs.Prelude.{ℕ, List, ◌∷◌}

-- a set of lists of kinds: what it says of a list is whether the list is in it
abbrev pub Lists : Type 1
Lists = List ℕ → Type 0

-- some list of the set begins with this kind
abbrev pub Begins : Lists → ℕ → Type 0
Begins A kind = (w : List ℕ) × A (kind ∷ w)

-- what followed this kind in the lists of the set that begin with it
abbrev pub following : ℕ → Lists → Lists
following kind A w = A (kind ∷ w)

-- the two sets have the same lists
abbrev pub Same : Lists → Lists → Type 0
Same A B = (w : List ℕ) → (A w → B w) × (B w → A w)
