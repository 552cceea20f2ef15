-- What a parser means after a list of kinds, and after any list of questions and operations.
-- Assumes nothing.
use Rattle.std.specs.Prelude.{◌≡◌, ℕ, ◌-◌, ◌<◌, ◌≤◌, List, [], ◌∷◌, ◌++◌, length, Decides, ◌≢◌}
use Rattle.parser.specs.Sets.{Lists, Begins}
use Rattle.parser.specs.Meaning.{Meaning, Alike, started, taken, marked, kept, returned}
use Rattle.parser.specs.declared.Refused.TheVariants.{NotViable, ReachSpent}
use Rattle.parser.specs.declared.runs.Call.{Call}
use Rattle.parser.specs.declared.runs.Call.TheVariants.{Viable, Complete, Start, Take, Mark, Back, Keep}
use Rattle.parser.specs.declared.runs.Answer.{Answer}
use Rattle.parser.specs.declared.runs.Answer.TheVariants.{Told, Done, Denied}

-- after these kinds were taken one by one: what followed them all may follow, and that many fewer are left
abbrev pub after : List ℕ → Meaning → Meaning
after kinds m =
    record { language = m.language; reach = m.reach; remainder = λ w. m.remainder (kinds ++ w); left = m.left - length kinds; mark = m.mark }

-- some list of the set begins with all these kinds
abbrev pub BeginsWith : Lists → List ℕ → Type 0
BeginsWith A kinds = (w : List ℕ) × A (kinds ++ w)

-- the list is a sentence that the reach allows
abbrev pub WithinReach : Meaning → List ℕ → Type 0
WithinReach m kinds = m.language kinds × (length kinds ≤ m.reach)

-- a question's answer says exactly whether P holds
abbrev pub Says : Answer → Type 0 → Type 0
Says (Told b) P = Decides b P
Says Done P = ⊥
Says (Denied why) P = ⊥

-- take's answer: done, or why not
abbrev pub TakeSays : ℕ → Meaning → Answer → Type 0
TakeSays kind m (Told b) = ⊥
TakeSays kind m Done = Begins m.remainder kind × (0 < m.left)
TakeSays kind m (Denied NotViable) = Begins m.remainder kind → ⊥
TakeSays kind m (Denied ReachSpent) = Begins m.remainder kind × (m.left ≡ 0)

-- what a question or an operation answers at a meaning
abbrev pub Answers : Meaning → Call → Answer → Type 0
Answers m (Viable kind) a = Says a (Begins m.remainder kind)
Answers m Complete a = Says a (m.remainder [])
Answers m Start a = a ≡ Done
Answers m (Take kind) a = TakeSays kind m a
Answers m Mark a = a ≡ Done
Answers m Back a = a ≡ Done
Answers m Keep a = a ≡ Done

-- the meaning after take, which a refusal leaves
abbrev pub taken_if : ℕ → Answer → Meaning → Meaning
taken_if kind (Told b) m = m
taken_if kind Done m = taken kind m
taken_if kind (Denied why) m = m

-- the meaning after a question or an operation
abbrev pub next : Call → Answer → Meaning → Meaning
next (Viable kind) a m = m
next Complete a m = m
next Start a m = started m
next (Take kind) a m = taken_if kind a m
next Mark a m = marked m
next Back a m = returned m
next Keep a m = kept m

-- these calls, one after the other from this meaning, answer so
abbrev pub Runs : Meaning → List Call → List Answer → Type 0
Runs m [] [] = Unit {0}
Runs m [] (a ∷ answers) = ⊥
Runs m (c ∷ cs) [] = ⊥
Runs m (c ∷ cs) (a ∷ answers) = Answers m c a × Runs (next c a m) cs answers

-- from these two meanings the same calls answer the same, however many they are
abbrev pub SameForEver : Meaning → Meaning → Type 0
SameForEver m n = (calls : List Call) (answers others : List Answer) → Runs m calls answers → Runs n calls others → answers ≡ others

-- these calls can be answered alike from the two meanings
abbrev pub Agree : Meaning → Meaning → List Call → Type 0
Agree m n calls = (answers : List Answer) × Runs m calls answers × Runs n calls answers

-- the same calls are made from two meanings, up to the first with two answers or to the end: where that leads
abbrev pub Made : Meaning → Meaning → List Call → Meaning → Meaning → Type 0
Made m n [] m' n' = Alike m' m × Alike n' n
Made m n (c ∷ cs) m' n' =
    (a : Answer) × (b : Answer) × Answers m c a × Answers n c b × (a ≡ b → Made (next c a m) (next c b n) cs m' n') × ((a ≢ b) → Alike m' (next c a m) × Alike n' (next c b n))
