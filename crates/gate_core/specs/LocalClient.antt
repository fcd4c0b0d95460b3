-- A World as one of its clients uses it: what the calls of the client add to each run after which the World stands. Own
-- rules.
use Rattle.std.specs.Prelude.{◌≡◌, ℕ, List, [], ◌∷◌, ◌++◌, Option, Result, Ok, Err}
use Rattle.gate_model.specs.declared.record.Moment.{Moment}
use Rattle.gate_model.specs.declared.submission.Body.{Body}
use Rattle.gate_model.specs.declared.submission.Numbered.{Numbered}
use Rattle.gate_core.specs.declared.event.Event.TheVariants.{Look, Push, Close}
use Rattle.gate_core.specs.declared.event.Reply.TheVariants as reply
use Rattle.gate_core.specs.declared.submit.Refused.{Refused}
use Rattle.gate_core.specs.declared.submit.Refused.TheVariants.{Closing, Spent, Full}
use Rattle.gate_core.specs.declared.submit.CloseFault.{CloseFault}
use Rattle.gate_core.specs.declared.submit.CloseFault.TheVariants.{AlreadyClosing, OutOfMemory}
use Rattle.gate_core.specs.Legal.{Run, queued, look_reply}
use Rattle.gate_core.specs.State.{WorldState, StandsAfter}

-- what a local client shows: its World and its number
pub record LocalState : Type 0 where
  pub world : WorldState
  pub number : ℕ

abbrev pub local : WorldState → ℕ → LocalState
local world number = record { world = world; number = number }

-- the items are those that the client was answered are queued in a run after which the World stands
pub record StandsFor (client : LocalState) (items : List Numbered) : Type 0 where
  pub run : Run
  pub stands : StandsAfter client.world run
  pub items_are : items ≡ queued client.number run

-- it is the client of this number in a World of the same limits
pub record IsSameClient (old new : LocalState) : Type 0 where
  pub number : new.number ≡ old.number
  pub limits : new.world.limits ≡ old.world.limits

-- whatever run the World stood after, it stands after that run with these pairs, the newest first
pub record Adds (old : LocalState) (pairs : Run) (new : LocalState) : Type 0 where
  pub same : IsSameClient old new
  pub stands : (run : Run) → StandsAfter old.world run → StandsAfter new.world (pairs ++ run)

-- the pairs of a submission: a look, and a push where the look was answered Open; the newest first
abbrev pub submitted : ℕ → Body → Result ℕ Refused → Run
submitted client body (Ok number) = (Push client body, reply.Queued number) ∷ (Look client, reply.Open) ∷ []
submitted client body (Err (Closing first returned)) = (Look client, reply.Closing first) ∷ []
submitted client body (Err (Spent returned)) = (Push client body, reply.Spent returned) ∷ (Look client, reply.Open) ∷ []
submitted client body (Err (Full returned)) = (Push client body, reply.Full returned) ∷ (Look client, reply.Open) ∷ []

-- the pair of a close; one that ran out of memory added none
abbrev pub closed_by : Moment → Result Moment CloseFault → Run
closed_by moment (Ok first) = (Close moment, reply.Begun) ∷ []
closed_by moment (Err (AlreadyClosing first)) = (Close moment, reply.AlreadyClosing first) ∷ []
closed_by moment (Err OutOfMemory) = []

-- a submission that was answered so is in the run, and nothing else is new
abbrev pub AddsSubmission : LocalState → Body → Result ℕ Refused → LocalState → Type 0
AddsSubmission old body result new = Adds old (submitted old.number body result) new

-- a look that was answered so is in the run, and nothing else is new
abbrev pub AddsLook : LocalState → Option Moment → LocalState → Type 0
AddsLook old result new = Adds old ((Look old.number, look_reply result) ∷ []) new

-- a close that was answered so is in the run, and nothing else is new
abbrev pub AddsClose : LocalState → Moment → Result Moment CloseFault → LocalState → Type 0
AddsClose old moment result new = Adds old (closed_by moment result) new
