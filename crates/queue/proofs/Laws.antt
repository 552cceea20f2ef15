-- What holds of every queue, for its callers.
use Rattle.std.proofs.Common.{◌≡◌, ◌+◌, ◌^◌, ◌<◌, ◌≤◌, length, refl, ◌∙◌, arith}
use Rattle.queue.specs.declared.ring.Queue.{Queue}
use Rattle.queue.specs.Waiting.{waiting, capacity, room, SamePlaces}

module _ {T : Type 0} (q : Queue T) where
  pub capacity_fits : capacity q < 2 ^ 64
  capacity_fits = q.bounded

  pub waiting_fits : length (waiting q) ≤ capacity q
  waiting_fits = omega arith

  -- each place is free or holds a waiting element
  pub room_and_waiting : room q + length (waiting q) ≡ capacity q
  room_and_waiting = omega arith

  -- nothing happened to the places
  pub same_places : SamePlaces q q
  same_places = record { size = refl; lender = refl }

-- two calls one after the other
pub same_places_on : {T : Type 0} {q q' q'' : Queue T} → SamePlaces q q' → SamePlaces q' q'' → SamePlaces q q''
same_places_on one two = record { size = two.size ∙ one.size; lender = two.lender ∙ one.lender }
