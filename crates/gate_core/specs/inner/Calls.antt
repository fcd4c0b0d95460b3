-- Only proofs and private functions use this: what single calls of a World change.
use Rattle.std.specs.Prelude.{◌≡◌, ℕ, ◌+◌, ◌-◌, ◌<◌, ◌≤◌, ◌==◌, if◌then◌else◌, List, [], ◌∷◌, ◌++◌, length, slice_get, slice_set, replicate, Option, Some, None, is_none, Result, Ok, Err, Bool, true, false, not, ◌&&◌}
use Rattle.gate_model.specs.declared.record.Moment.{Moment}
use Rattle.gate_model.specs.declared.submission.Body.{Body}
use Rattle.gate_model.specs.declared.submission.Numbered.{Numbered}
use Rattle.gate_core.specs.declared.world.Seat.{Seat}
use Rattle.gate_core.specs.declared.event.Reply.{Reply}
use Rattle.gate_core.specs.declared.event.Reply.TheVariants as reply
use Rattle.gate_core.specs.declared.event.PushFault.{PushFault}
use Rattle.gate_core.specs.declared.event.PushFault.TheVariants.{Spent, Full}
use Rattle.gate_core.specs.declared.submit.Refused.{Refused}
use Rattle.gate_core.specs.declared.submit.Refused.TheVariants as refused
use Rattle.gate_core.specs.Limits.{Limits}
use Rattle.gate_core.specs.Merge.{numbered}
use Rattle.gate_core.specs.State.{WorldState}

-- ---- seats

-- the client's seat, where the World has one for it
abbrev pub seat_of : WorldState → ℕ → Option Seat
seat_of world client = if client == 0 then None else slice_get world.seats (client - 1)

-- the seat's client may look, push or end
abbrev pub is_open_seat : Option Seat → Bool
is_open_seat None = false
is_open_seat (Some seat) = not seat.ended

-- the seat's client may push
abbrev pub is_ready_seat : Option Seat → Bool
is_ready_seat None = false
is_ready_seat (Some seat) = not seat.ended && seat.looked

-- the seat's client may be taken in
abbrev pub is_leaving_seat : Option Seat → Bool
is_leaving_seat None = false
is_leaving_seat (Some seat) = seat.ended && not seat.joined

-- the seat after its client's look
abbrev pub after_look : Option Moment → Seat → Seat
after_look closed seat =
    record { count = seat.count; looked = is_none closed; ended = seat.ended; joined = seat.joined }

-- the seat after its client's push, which was queued
abbrev pub after_push : Seat → Seat
after_push seat = record { count = seat.count + 1; looked = false; ended = seat.ended; joined = seat.joined }

-- the seat after its client's push, which was refused
abbrev pub after_refusal : Seat → Seat
after_refusal seat = record { count = seat.count; looked = false; ended = seat.ended; joined = seat.joined }

-- the seat after its client's end
abbrev pub after_end : Seat → Seat
after_end seat = record { count = seat.count; looked = false; ended = true; joined = seat.joined }

-- the seat after its client was taken in
abbrev pub after_taking_in : Seat → Seat
after_taking_in seat = record { count = seat.count; looked = seat.looked; ended = seat.ended; joined = true }

-- ---- Worlds

-- a client that has done nothing yet
abbrev pub new_seat : Seat
new_seat = record { count = 0; looked = false; ended = false; joined = false }

-- a World in which nothing has happened
abbrev pub new_world : Limits → WorldState
new_world limits = record { limits = limits; queue = []; closed = None; seats = replicate limits.clients new_seat }

-- the World with this seat for the client
abbrev pub with_seat : WorldState → ℕ → Seat → WorldState
with_seat world client seat = record {
  limits = world.limits;
  queue = world.queue;
  closed = world.closed;
  seats = slice_set world.seats (client - 1) seat;
}

-- the World with this queue
abbrev pub with_queue : WorldState → List Numbered → WorldState
with_queue world queue = record { limits = world.limits; queue = queue; closed = world.closed; seats = world.seats }

-- the World with this moment of its first close
abbrev pub with_close : WorldState → Option Moment → WorldState
with_close world closed = record { limits = world.limits; queue = world.queue; closed = closed; seats = world.seats }

-- ---- pushes

-- the push of a client that may push: its item joins the queue, or the body is returned because the quota is used up
-- or, if it isn't, because there is no room
abbrev pub AnswersPush : WorldState → ℕ → Seat → Body → Result ℕ PushFault → WorldState → Type 0
AnswersPush world client seat body (Ok number) after =
    (number ≡ seat.count + 1) × (seat.count < world.limits.quota) × (length world.queue < world.limits.capacity)
    × (after ≡ with_seat (with_queue world (world.queue ++ numbered client number body ∷ [])) client (after_push seat))
AnswersPush world client seat body (Err (Spent returned)) after =
    (returned ≡ body) × (world.limits.quota ≤ seat.count) × (after ≡ with_seat world client (after_refusal seat))
AnswersPush world client seat body (Err (Full returned)) after =
    (returned ≡ body) × (seat.count < world.limits.quota) × (world.limits.capacity ≤ length world.queue)
    × (after ≡ with_seat world client (after_refusal seat))

-- the reply to a push
abbrev pub reply_of_push : Result ℕ PushFault → Reply
reply_of_push (Ok number) = reply.Queued number
reply_of_push (Err (Spent body)) = reply.Spent body
reply_of_push (Err (Full body)) = reply.Full body

-- why a submission is refused whose push was refused
abbrev pub refused_of_push : PushFault → Refused
refused_of_push (Spent body) = refused.Spent body
refused_of_push (Full body) = refused.Full body
