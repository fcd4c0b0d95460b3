-- A client and a closer of one gate, and what the trait `Operator` leaves open for them. Own rules.
use Rattle.std.specs.Prelude.{◌≡◌, Some, None, IfSome, Result, Ok, Err}
use Rattle.gate_model.specs.declared.record.Moment.{Moment}
use Rattle.gate_core.specs.declared.submit.CloseFault.{CloseFault}
use Rattle.gate_core.specs.declared.submit.CloseFault.TheVariants.{AlreadyClosing, OutOfMemory}
use Rattle.gate_queue.specs.Knowledge.{CloseKnowledge, Learns}
use Rattle.gate_queue.specs.Client.{ClientState, client_state}

-- the client and the closer become an operator: the client with its items, and both know what either knew of the close
pub record Joins (client : ClientState) (closer : CloseKnowledge) (operator : ClientState) : Type 0 where
  pub gate : operator.gate ≡ client.gate
  pub number : operator.number ≡ client.number
  pub queued : operator.queued ≡ client.queued
  pub known_close : Learns closer.known_close client.known_close operator.known_close

-- a close that was answered so: of the first close the operator knows the moment; out of memory, it knows of none. All
-- else stays
abbrev pub Closes : ClientState → Moment → Result Moment CloseFault → ClientState → Type 0
Closes old moment (Ok first) new =
    (first ≡ moment) × (old.known_close ≡ None) × (new ≡ client_state old.gate old.number old.queued (Some moment))
Closes old moment (Err (AlreadyClosing first)) new =
    (new ≡ client_state old.gate old.number old.queued (Some first)) × IfSome old.known_close (λ known. known ≡ first)
Closes old moment (Err OutOfMemory) new = (old.known_close ≡ None) × (new ≡ old)
