-- What the table's entries make of a list of symbols as a kind comes next: its first symbol is expanded, again and again.
-- Assumes nothing.
use Rattle.std.specs.Prelude.{ℕ, List, [], ◌∷◌, ◌++◌, reverse, ◌≢◌}
use Rattle.grammar.specs.Grammar.{Production, Numbered}
use Rattle.grammar.specs.Sheet.{sheet}
use Rattle.table.specs.Entry.{Entry}
use Rattle.table.specs.declared.steps.Step.{Step}
use Rattle.table.specs.declared.steps.Step.TheVariants.{Rejected, Vanishes, Meets}

-- as t comes next, the one list comes to the other: any number of times the right side of the production that its entry names stands in for the first symbol
pub data Expands (t : ℕ) : List ℕ → List ℕ → Type 0 where
  stays : {x : List ℕ} → Expands t x x
  expands : {a n : ℕ} {p : Production} {x y : List ℕ} → Entry a t n → Numbered sheet n p → Expands t (p.right ++ x) y → Expands t (a ∷ x) y

-- it comes to a list whose first symbol is not t and has no entry
pub record Stuck (t : ℕ) (x : List ℕ) : Type 0 where
  pub first : ℕ
  pub others : List ℕ
  pub comes : Expands t x (first ∷ others)
  pub other : first ≢ t
  pub no_entry : Entry first t 0

-- the step is what the table's entries bring the symbol a to: a first symbol at which they end, no symbol at all, or t with what is then left, the last of it first
abbrev pub ByEntries : ℕ → ℕ → Step → Type 0
ByEntries a t Rejected = Stuck t (a ∷ [])
ByEntries a t Vanishes = Expands t (a ∷ []) []
ByEntries a t (Meets left) = Expands t (a ∷ []) (t ∷ reverse left.now)
