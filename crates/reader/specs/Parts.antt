-- What the code that finds runs answers. Assumes nothing.
use Rattle.std.specs.Prelude.{◌≡◌, ℕ, Bool, Some, None, Option}
use Rattle.reader.specs.Runs.{Front, stray, run}
use Rattle.reader.specs.declared.class.Class.{Class}
use Rattle.reader.specs.declared.run.Run.{Run}

-- what a closure answers of a class is what a test says of it
abbrev pub AnswersAs : (Class → Bool) → (Class → Bool → Type 0) → Type 0
AnswersAs p answers = (c : Class) (r : Bool) → answers c r → r ≡ p c

-- what stands at the front where no blank or line end does: a run, or a byte that begins none
abbrev pub front_of : Option Run → Front
front_of None = stray
front_of (Some r) = run r.kind r.length

-- how many bytes it takes
abbrev pub run_length : Option Run → ℕ
run_length None = 1
run_length (Some r) = r.length
