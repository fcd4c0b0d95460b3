-- What contracts see of the taker. Own rules.
use Rattle.std.specs.Prelude.{◌≡◌, ℕ, zero, suc, ◌+◌, ◌==◌, if◌then◌else◌, List, [], ◌∷◌, ◌++◌, length, Option, Some, None, unwrap_or}
use mathlib.Core.List.{IsPrefix}
use Rattle.gate_model.specs.declared.record.Moment.{Moment}
use Rattle.gate_model.specs.declared.submission.Numbered.{Numbered}
use Rattle.gate_core.specs.Limits.{Limits}
use Rattle.gate_core.specs.Merge.{IsClient, of_client, IsCoreState}
use Rattle.gate_queue.specs.declared.rule.EndedList.{EndedList}
use Rattle.gate_queue.specs.Gate.{GateId}
use Rattle.gate_queue.specs.Knowledge.{Learns}
use Rattle.gate_queue.specs.Client.{ClientState}

-- this was queued for client c, which was taken in
abbrev pub ended_list : ℕ → List Numbered → EndedList
ended_list c queued = record { client = c; queued = queued }

-- what was queued for client c, if it was taken in
abbrev pub queued_of : ℕ → List EndedList → Option (List Numbered)
queued_of c [] = None
queued_of c (e ∷ es) = if e.client == c then Some e.queued else queued_of c es

-- the same, or nothing where it was not
abbrev pub list_of : List EndedList → ℕ → List Numbered
list_of taken_in c = unwrap_or (queued_of c taken_in) []

-- how many items were queued for those of clients 1 to n that were taken in
abbrev pub total_queued : List EndedList → ℕ → ℕ
total_queued taken_in zero = 0
total_queued taken_in (suc n) = total_queued taken_in n + length (list_of taken_in (suc n))

-- the taker: its gate, what was taken, what was queued for the clients taken in, and the moment of the close, once it
-- knows of it
pub record TakerState : Type 0 where
  pub gate : GateId
  pub taken : List Numbered
  pub ended : List EndedList
  pub known_close : Option Moment

abbrev pub taker_state : GateId → List Numbered → List EndedList → Option Moment → TakerState
taker_state gate taken ended known_close =
    record { gate = gate; taken = taken; ended = ended; known_close = known_close }

-- these lists are those of the clients taken in
abbrev pub AreListsOf : (ℕ → List Numbered) → List EndedList → Type 0
AreListsOf sent ended = (c : ℕ) (queued : List Numbered) → queued_of c ended ≡ Some queued → sent c ≡ queued

-- the queue may hold these items after what was taken: with some items queued for the clients not taken in, nothing is
-- lost, made or out of order
abbrev pub AllowsAfter : Limits → List Numbered → List EndedList → List Numbered → Type 0
AllowsAfter limits taken ended queue =
    (sent : ℕ → List Numbered) × IsCoreState limits.clients limits.quota limits.capacity sent taken queue
    × AreListsOf sent ended

-- what was taken, followed by what the queue may hold, is a merge of what was queued for the clients: nothing is lost,
-- made or out of order
abbrev pub IsConserved : TakerState → Type 0
IsConserved taker = (queue : List Numbered) × AllowsAfter taker.gate.limits taker.taken taker.ended queue

-- the item was taken, and it is the next of its client
abbrev pub TakesOne : Numbered → TakerState → TakerState → Type 0
TakesOne x old new =
    (new ≡ taker_state old.gate (old.taken ++ x ∷ []) old.ended old.known_close)
    × IsClient old.gate.limits.clients x.client × (x.number ≡ length (of_client x.client old.taken) + 1)

-- all that was queued was taken: the queue may be empty after it, and of each client taken in, all items were taken
pub record HasAll (taker : TakerState) : Type 0 where
  pub empty : AllowsAfter taker.gate.limits taker.taken taker.ended []
  pub each : (c : ℕ) (queued : List Numbered) → queued_of c taker.ended ≡ Some queued → of_client c taker.taken ≡ queued

-- of each client taken in, what was taken is a prefix of what was queued
abbrev pub BeginsEach : TakerState → Type 0
BeginsEach taker = (c : ℕ) (queued : List Numbered) → queued_of c taker.ended ≡ Some queued
    → IsPrefix (of_client c taker.taken) queued

-- the client was taken in, and the taker learns what it knew of the close
abbrev pub TakesIn : ClientState → TakerState → TakerState → Type 0
TakesIn client old new =
    (new.gate ≡ old.gate) × (new.taken ≡ old.taken) × (new.ended ≡ ended_list client.number client.queued ∷ old.ended)
    × Learns client.known_close old.known_close new.known_close
