-- What an entry of the table is: the production to expand a nonterminal by when a kind comes next.
-- Assumes nothing.
use Rattle.std.specs.Prelude.{◌≡◌, ℕ, ◌⊎◌, ◌≢◌}
use Rattle.grammar.specs.Grammar.{Production, Numbered, Nullable, CanBegin, CanFollow}
use Rattle.grammar.specs.Sheet.{sheet}

-- production n is for a and t: it is one of a's, and t can begin what its right side derives, or that derives the empty list and t can follow a
abbrev pub Predicts : ℕ → ℕ → ℕ → Type 0
Predicts a t n =
    (p : Production) × Numbered sheet n p × (p.left ≡ a) × (CanBegin sheet p.right t ⊎ (Nullable sheet p.right × CanFollow sheet a t))

-- e is the one production that is for a and t, and 0 where none is
pub record Entry (a t e : ℕ) : Type 0 where
  pub only : (n : ℕ) → Predicts a t n → n ≡ e
  pub is : (e ≢ 0) → Predicts a t e
