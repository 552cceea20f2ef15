-- What a parser means, and what each operation makes of it.
-- Assumes nothing.
use Rattle.std.specs.Prelude.{◌≡◌, ℕ, ◌-◌, ◌<◌, Ok, Err, Result}
use Rattle.parser.specs.Sets.{Lists, Begins, following, Same}
use Rattle.parser.specs.declared.Refused.{Refused}
use Rattle.parser.specs.declared.Refused.TheVariants.{NotViable, ReachSpent}

-- a mark is absent, or holds an earlier remainder and number left
pub data Mark : Type 1 where
  absent : Mark
  holds : Lists → ℕ → Mark

-- for life a language and a reach; now a remainder, a number left and a mark
pub record Meaning : Type 1 where
  pub language : Lists
  pub reach : ℕ
  pub remainder : Lists
  pub left : ℕ
  pub mark : Mark

-- the parts of a meaning that the two interfaces give of a value
abbrev pub Parts : Type 0 → Type 1
Parts S = record { remainder : S → Lists; language : S → Lists; reach : S → ℕ; left : S → ℕ; saved : S → Mark }

-- the meaning of a value, from those parts
abbrev pub meaning : {S : Type 0} → Parts S → S → Meaning
meaning parts s =
    record { language = parts.language s; reach = parts.reach s; remainder = parts.remainder s; left = parts.left s; mark = parts.saved s }

-- the same mark: both absent, or the same remainder and number left held
abbrev pub SameMark : Mark → Mark → Type 0
SameMark absent absent = Unit {0}
SameMark absent (holds B n) = ⊥
SameMark (holds A m) absent = ⊥
SameMark (holds A m) (holds B n) = Same A B × (m ≡ n)

-- the same meaning, part by part
pub record Alike (m n : Meaning) : Type 0 where
  pub language : Same m.language n.language
  pub reach : m.reach ≡ n.reach
  pub remainder : Same m.remainder n.remainder
  pub left : m.left ≡ n.left
  pub mark : SameMark m.mark n.mark

-- start: the whole language may follow, the whole reach is left, and there is no mark
abbrev pub started : Meaning → Meaning
started m =
    record { language = m.language; reach = m.reach; remainder = m.language; left = m.reach; mark = absent }

-- a taken kind: what followed it may follow, and one fewer is left
abbrev pub taken : ℕ → Meaning → Meaning
taken kind m =
    record { language = m.language; reach = m.reach; remainder = following kind m.remainder; left = m.left - 1; mark = m.mark }

-- mark: the present remainder and number left are held, whatever was held before
abbrev pub marked : Meaning → Meaning
marked m =
    record { language = m.language; reach = m.reach; remainder = m.remainder; left = m.left; mark = holds m.remainder m.left }

-- keep: there is no mark any more
abbrev pub kept : Meaning → Meaning
kept m =
    record { language = m.language; reach = m.reach; remainder = m.remainder; left = m.left; mark = absent }

-- the meaning with the remainder and number left that a mark holds, and no mark; as it is where there is none
abbrev pub restored : Mark → Meaning → Meaning
restored absent m = m
restored (holds A n) m = record { language = m.language; reach = m.reach; remainder = A; left = n; mark = absent }

-- back: what the mark holds is restored and the mark cleared
abbrev pub returned : Meaning → Meaning
returned m = restored m.mark m

-- the number of a refusal
abbrev pub number_of : Refused → ℕ
number_of NotViable = 11
number_of ReachSpent = 12

-- take, by its answer: refused first where the kind is not viable, then where none is left, and both leave the meaning
abbrev pub Takes : ℕ → Meaning → Result (Unit {0}) Refused → Meaning → Type 0
Takes kind before (Ok done) after = Begins before.remainder kind × (0 < before.left) × Alike after (taken kind before)
Takes kind before (Err NotViable) after = (Begins before.remainder kind → ⊥) × Alike after before
Takes kind before (Err ReachSpent) after = Begins before.remainder kind × (before.left ≡ 0) × Alike after before
