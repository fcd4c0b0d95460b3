-- What a World shows, and the runs after which it stands.
use Rattle.std.specs.Prelude.{◌≡◌, ℕ, ◌+◌, ◌-◌, ◌<◌, List, ◌∷◌, ◌++◌, length, reverse, zip, sum_by, slice_get, Option, Some}
use Rattle.gate_model.specs.declared.record.Moment.{Moment}
use Rattle.gate_model.specs.declared.submission.Numbered.{Numbered}
use Rattle.gate_core.specs.declared.world.Seat.{Seat}
use Rattle.gate_core.specs.declared.event.Event.{Event}
use Rattle.gate_core.specs.declared.event.Reply.{Reply}
use Rattle.gate_core.specs.Limits.{Limits}
use Rattle.gate_core.specs.Legal.{Run, queued, waiting, first_close, has_ended, has_joined, has_looked, IsLegal}

-- what a World shows: with what it was opened, its queue, the moment of the first close, and a seat for each client
pub record WorldState : Type 0 where
  pub limits : Limits
  pub queue : List Numbered
  pub closed : Option Moment
  pub seats : List Seat

-- how many items were taken: all that were queued for the clients, less those in the queue
abbrev pub taken_count : WorldState → ℕ
taken_count world = sum_by (λ seat. seat.count) world.seats - length world.queue

-- what a World keeps of a client after a run
abbrev pub seat_after : ℕ → Run → Seat
seat_after client run = record {
  count = length (queued client run);
  looked = has_looked client run;
  ended = has_ended client run;
  joined = has_joined client run;
}

-- the run is legal, and the World shows its queue, its first close and a seat for each client as they are after the run
pub record StandsAfter (world : WorldState) (run : Run) : Type 0 where
  pub legal : IsLegal world.limits run
  pub queue_is : world.queue ≡ waiting run
  pub closed_is : world.closed ≡ first_close run
  pub seat_count_is : length world.seats ≡ world.limits.clients
  pub seats_are : (index : ℕ) → index < world.limits.clients
      → slice_get world.seats index ≡ Some (seat_after (index + 1) run)

-- whatever run the old World stood after, the new one stands after that run with this event and its reply
abbrev pub Extends : WorldState → Event → Reply → WorldState → Type 0
Extends old event reply new = (run : Run) → StandsAfter old run → StandsAfter new ((event, reply) ∷ run)

-- whatever run the old World stood after, the new one stands after that run with these events and their replies, of
-- which the last is the newest
abbrev pub ExtendsByAll : WorldState → List Event → List Reply → WorldState → Type 0
ExtendsByAll old events replies new =
    (run : Run) → StandsAfter old run → StandsAfter new (reverse (zip events replies) ++ run)
