-- What a queue means: the list of the elements that wait in it, in a number of places.
use Rattle.std.specs.Prelude.{◌≡◌, ℕ, ◌-◌, List, length}
use Rattle.queue.specs.declared.ring.Queue.{Queue}
use Rattle.queue.specs.Ring.{around}

-- the waiting elements, the oldest first
abbrev pub waiting : {T : Type 0} → Queue T → List T
waiting q = around q.first q.count q.places.now

-- the number of places
abbrev pub capacity : {T : Type 0} → Queue T → ℕ
capacity q = length q.places.now

-- the number of free places
abbrev pub room : {T : Type 0} → Queue T → ℕ
room q = capacity q - length (waiting q)

-- the same places of the same lender
pub record SamePlaces {T : Type 0} (q q' : Queue T) : Type 0 where
  pub size : capacity q' ≡ capacity q
  pub lender : q'.places.ghost_name ≡ q.places.ghost_name
