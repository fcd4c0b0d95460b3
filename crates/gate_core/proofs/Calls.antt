-- What each call of a World changes, and that the World stands after it.
use Rattle.std.proofs.Common.{◌≡◌, ℕ, ◌∷◌, drop, Option, Some, Result, Ok, Err, true, sym, subst}
use Rattle.std.specs.Prelude.{slice_get}
use Rattle.gate_model.specs.declared.record.Moment.{Moment}
use Rattle.gate_model.specs.declared.submission.Numbered.{Numbered}
use Rattle.gate_model.specs.declared.submission.Body.{Body}
use Rattle.gate_core.specs.declared.world.Seat.{Seat}
use Rattle.gate_core.specs.declared.event.Event.TheVariants.{Look, Push, Take}
use Rattle.gate_core.specs.declared.event.PushFault.{PushFault}
use Rattle.gate_core.specs.declared.event.PushFault.TheVariants.{Spent, Full}
use Rattle.gate_core.specs.Legal.{Run, look_reply, take_reply}
use Rattle.gate_core.specs.State.{WorldState, StandsAfter}
use Rattle.gate_core.specs.inner.Calls.{seat_of, with_seat, with_queue, is_open_seat, is_ready_seat, after_look, after_refusal, AnswersPush, reply_of_push}
use Rattle.gate_core.proofs.Steps.{stands_look, stands_queued, stands_spent, stands_full, stands_take}

-- each call, by the seat that its client had
pub look_stands : (world after : WorldState) (client : ℕ) (old : Seat) (result : Option Moment) → seat_of world client ≡ Some old → is_open_seat (seat_of world client) ≡ true → result ≡ world.closed
    → after ≡ with_seat world client (after_look world.closed old)
    → (run : Run) → StandsAfter world run → StandsAfter after ((Look client, look_reply result) ∷ run)
look_stands world after client old result e unended first is run h =
    subst (λ w. StandsAfter w ((Look client, look_reply result) ∷ run)) (sym is)
    (subst (λ r. StandsAfter (with_seat world client (after_look world.closed old)) ((Look client, look_reply r) ∷ run)) (sym first) (stands_look world client old run e unended h))

pub push_stands : (world after : WorldState) (client : ℕ) (old : Seat) (body : Body) (result : Result ℕ PushFault) → seat_of world client ≡ Some old → is_ready_seat (seat_of world client) ≡ true
    → AnswersPush world client old body result after
    → (run : Run) → StandsAfter world run → StandsAfter after ((Push client body, reply_of_push result) ∷ run)
push_stands world after client old body (Ok number) e ready answers run h =
    subst (λ w. StandsAfter w ((Push client body, reply_of_push (Ok number)) ∷ run)) (sym answers.3) (stands_queued world client old body number run e ready answers.0 answers.1 answers.2 h)
push_stands world after client old body (Err (Spent returned)) e ready answers run h =
    subst (λ w. StandsAfter w ((Push client body, reply_of_push (Err (Spent returned))) ∷ run)) (sym answers.2)
    (subst (λ b. StandsAfter (with_seat world client (after_refusal old)) ((Push client body, reply_of_push (Err (Spent b))) ∷ run)) (sym answers.0) (stands_spent world client old body run e ready answers.1 h))
push_stands world after client old body (Err (Full returned)) e ready answers run h =
    subst (λ w. StandsAfter w ((Push client body, reply_of_push (Err (Full returned))) ∷ run)) (sym answers.3)
    (subst (λ b. StandsAfter (with_seat world client (after_refusal old)) ((Push client body, reply_of_push (Err (Full b))) ∷ run)) (sym answers.0) (stands_full world client old body run e ready answers.1 answers.2 h))

pub take_stands : (world after : WorldState) (result : Option Numbered) → result ≡ slice_get world.queue 0 → after ≡ with_queue world (drop 1 world.queue)
    → (run : Run) → StandsAfter world run → StandsAfter after ((Take, take_reply result) ∷ run)
take_stands world after result oldest is run h =
    subst (λ w. StandsAfter w ((Take, take_reply result) ∷ run)) (sym is)
    (subst (λ r. StandsAfter (with_queue world (drop 1 world.queue)) ((Take, take_reply r) ∷ run)) (sym oldest) (stands_take world run h))
