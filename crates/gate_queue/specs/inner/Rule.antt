-- Only proofs and private functions use this: the rule over what the queue holds and what its passes know.
use Rattle.std.specs.Prelude.{◌≡◌, ℕ, ◌+◌, ◌<◌, ◌≤◌, true, false, List, [], ◌∷◌, ◌++◌, length, Some}
use mathlib.Core.Option.{some}
use lib.ListN.{get_elem?}
use Rattle.gate_model.specs.declared.submission.Numbered.{Numbered}
use Rattle.gate_core.specs.Limits.{limits_of}
use Rattle.gate_core.specs.Merge.{IsClient, of_client, IsCoreState}
use Rattle.gate_queue.specs.declared.rule.EndedList.{EndedList}
use Rattle.gate_queue.specs.declared.rule.View.{View}
use Rattle.gate_queue.specs.Taker.{queued_of, AllowsAfter}

-- ---- views

-- the view of a client's pass
abbrev pub client : ℕ → ℕ → ℕ → ℕ → List Numbered → View
client n quota capacity c queued = record { clients = n; quota = quota; capacity = capacity; sends = true; number = c; queued = queued; takes = false; made = 0; taken = []; ended = [] }

-- the view of the taker's pass, which has made the passes of the first clients and taken in those that ended
abbrev pub taker : ℕ → ℕ → ℕ → ℕ → List Numbered → List EndedList → View
taker n quota capacity made taken ended = record { clients = n; quota = quota; capacity = capacity; sends = false; number = 0; queued = []; takes = true; made = made; taken = taken; ended = ended }

-- the view of a pass that knows nothing
abbrev pub blank : View
blank = record {
  clients = 0;
  quota = 0;
  capacity = 0;
  sends = false;
  number = 0;
  queued = [];
  takes = false;
  made = 0;
  taken = [];
  ended = [];
}

-- the view of the first pass, before it gets the limits
abbrev pub opener : View
opener = taker 0 0 0 0 [] []

-- ---- the rule

-- the view has these limits
pub record HasLimits (n quota capacity : ℕ) (v : View) : Type 0 where
  pub clients_is : v.clients ≡ n
  pub quota_is : v.quota ≡ quota
  pub capacity_is : v.capacity ≡ capacity

-- a client's view has what was queued for it, and the pass at this index owns its list
pub record FitsClient (n quota capacity : ℕ) (sent : ℕ → List Numbered) (owner : ℕ → ℕ) (index : ℕ) (v : View)
    : Type 0 where
  pub limits : HasLimits n quota capacity v
  pub number : IsClient n v.number
  pub owns : owner v.number ≡ index
  pub queued_is : sent v.number ≡ v.queued

-- the taker's view has what was taken, and its pass, at this index, owns the list of each client that has no pass yet
-- or was taken in
pub record FitsTaker (n quota capacity : ℕ) (sent : ℕ → List Numbered) (owner : ℕ → ℕ) (taken : List Numbered)
    (reader index : ℕ) (v : View) : Type 0 where
  pub limits : HasLimits n quota capacity v
  pub index_is : index ≡ reader
  pub taken_is : v.taken ≡ taken
  pub unmade : (c : ℕ) → v.made < c → (owner c ≡ reader) × (sent c ≡ [])
  pub ended : (c : ℕ) (queued : List Numbered) → queued_of c v.ended ≡ Some queued
      → (c ≤ v.made) × (owner c ≡ reader) × (sent c ≡ queued)

-- nothing is lost, made or out of order, and each view fits it
pub record IsRuled (items : List Numbered) (views : List View) : Type 0 where
  pub n : ℕ
  pub quota : ℕ
  pub capacity : ℕ
  pub sent : ℕ → List Numbered
  pub owner : ℕ → ℕ
  pub taken : List Numbered
  pub reader : ℕ
  pub core : IsCoreState n quota capacity sent taken items
  pub of_clients : (index : ℕ) (v : View) → get_elem? views index ≡ some v → v.sends ≡ true
      → FitsClient n quota capacity sent owner index v
  pub of_taker : (index : ℕ) (v : View) → get_elem? views index ≡ some v → v.takes ≡ true
      → FitsTaker n quota capacity sent owner taken reader index v

-- the item was taken, it is the next of its client, and the queue may hold some items after it
abbrev pub TakesNext : View → Numbered → View → Type 0
TakesNext v x w =
    (w ≡ taker v.clients v.quota v.capacity v.made (v.taken ++ x ∷ []) v.ended)
    × IsClient v.clients x.client × (x.number ≡ length (of_client x.client v.taken) + 1)
    × ((queue : List Numbered) × AllowsAfter (limits_of v.clients v.quota v.capacity) (v.taken ++ x ∷ []) v.ended queue)
