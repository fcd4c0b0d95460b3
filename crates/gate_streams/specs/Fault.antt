-- What is reported of a command that stops: a line on standard error, and an exit status. Own rules.
use Rattle.std.specs.Prelude.{◌≡◌, ℕ, List, Option, Some, None, Result, Ok, Err}
use Rattle.gate_streams.specs.Sink.{SinkState, IsReported}

-- the fault that a result has
abbrev pub fault_in : {X F : Type 0} → Result X F → Option F
fault_in (Ok done) = None
fault_in (Err fault) = Some fault

-- the exit status of a command, which a fault may have stopped
abbrev pub status_at_end : {F : Type 0} → (F → ℕ) → Option F → ℕ
status_at_end status_of None = 0
status_at_end status_of (Some fault) = status_of fault

-- the fault is reported in one line, and without a fault nothing is
abbrev pub IsFaultReported : {F : Type 0} → (F → List ℕ) → Option F → SinkState → SinkState → Type 0
IsFaultReported message_of None before after = after ≡ before
IsFaultReported message_of (Some fault) before after = IsReported (message_of fault) before after
