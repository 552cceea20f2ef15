-- A walk down a stack as a kind comes next. The stack is given with its top last.
-- Assumes nothing.
use Rattle.std.specs.Prelude.{ℕ, ◌<◌, ◌≤◌, List, ◌++◌, length, take, reverse}
use Rattle.grammar.specs.Grammar.{IsKind}
use Rattle.table.specs.Stack.{Ends, Follows}

-- the kind is met: so many symbols from the bottom, and what is left on top of them, derive what followed it
pub record Found (kind : ℕ) (stack : List ℕ) (below : ℕ) (left : List ℕ) : Type 0 where
  pub is_kind : IsKind kind
  pub follows : Follows kind (reverse stack) (reverse (take below stack ++ left))
  pub ends : Ends (reverse (take below stack ++ left))
  pub few : length left ≤ 4
  pub deeper : below < length stack
