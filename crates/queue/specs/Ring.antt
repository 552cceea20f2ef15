-- A ring is a list whose last place is followed by its first.
use Rattle.std.specs.Prelude.{ℕ, ◌+◌, ◌-◌, cond, List, ◌++◌, take, drop, nat_lt}

-- the place k places behind place i, of n places
abbrev pub onward : ℕ → ℕ → ℕ → ℕ
onward n i k = cond (nat_lt (i + k) n) (i + k) (i + k - n)

-- the k elements of a ring from place i on
abbrev pub around : {T : Type 0} → ℕ → ℕ → List T → List T
around i k ring = take k (drop i (ring ++ ring))
