use Rattle.std.specs.Prelude.{ℕ}
use Rattle.queue.specs.declared.refusal.Full.{Full}

-- the number of the refusal
abbrev pub number : Full → ℕ
number _ = 19
