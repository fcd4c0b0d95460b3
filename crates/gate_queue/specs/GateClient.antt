-- A client that is used with its gate at hand, and what the trait `Submit` leaves open for it. Own rules.
use Rattle.std.specs.Prelude.{◌≡◌, ℕ, ◌+◌, ◌<◌, List, [], ◌∷◌, ◌++◌, length, Option, None, Result, Ok, Err}
use Rattle.gate_model.specs.declared.record.Moment.{Moment}
use Rattle.gate_model.specs.declared.submission.Body.{Body}
use Rattle.gate_model.specs.declared.submission.Numbered.{Numbered}
use Rattle.gate_core.specs.declared.submit.Refused.{Refused}
use Rattle.gate_core.specs.Merge.{numbered}
use Rattle.gate_queue.specs.Client.{ClientState, client_state, IsRefusal}

-- the client stands for the items that it was answered are queued, and for no other list
abbrev pub StandsFor : ClientState → List Numbered → Type 0
StandsFor client items = client.queued ≡ items

-- it is the client of this number of the same gate
pub record IsSameClient (old new : ClientState) : Type 0 where
  pub gate : new.gate ≡ old.gate
  pub number : new.number ≡ old.number

-- a submission that was answered so: an item with the next number was added within the quota, or none was and the body
-- is returned
abbrev pub Submits : ClientState → Body → Result ℕ Refused → ClientState → Type 0
Submits old body (Ok number) new =
    (number ≡ length old.queued + 1) × (old.known_close ≡ None) × (length old.queued < old.gate.limits.quota)
    × (new ≡ client_state old.gate old.number (old.queued ++ numbered old.number number body ∷ []) None)
Submits old body (Err fault) new = IsRefusal fault body old new

-- a look that was answered so: the client knows this of the close, and all else stays
abbrev pub Looks : ClientState → Option Moment → ClientState → Type 0
Looks old result new = new ≡ client_state old.gate old.number old.queued result
