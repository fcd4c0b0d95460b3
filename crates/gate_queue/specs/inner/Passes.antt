-- Only proofs and private functions use this: what a client and the taker keep of their passes.
use Rattle.std.specs.Prelude.{◌≡◌, ℕ, zero, suc, ◌+◌, ◌<◌, ◌≤◌, List, length, slice_get, slice_index_or, Option, Some, None, option_map, unwrap_or, IsSome}
use Rattle.gate_model.specs.declared.submission.Numbered.{Numbered}
use Rattle.gate_core.specs.Limits.{Limits, limits_of}
use Rattle.gate_core.specs.Merge.{IsClient}
use Rattle.gate_queue.specs.declared.rule.View.{View}
use Rattle.gate_queue.specs.Taker.{queued_of, AllowsAfter}
use Rattle.gate_queue.specs.inner.Rule.{client, taker}

-- the view is that of the client with this number, this many items queued and this quota
pub record IsClientPass (v : View) (number count quota : ℕ) : Type 0 where
  pub view_is : v ≡ client v.clients v.quota v.capacity number v.queued
  pub count_is : count ≡ length v.queued
  pub quota_is : quota ≡ v.quota
  pub within : count ≤ quota
  pub is_client : IsClient v.clients number

-- the view is the taker's, once the passes of all clients are made
abbrev pub IsTakerPass : View → Type 0
IsTakerPass v = v ≡ taker v.clients v.quota v.capacity v.clients v.taken v.ended

-- how many items were queued for each client that was taken in, client 1 first
pub record CountsEnded (v : View) (counts : List (Option ℕ)) : Type 0 where
  pub few : v.clients ≤ 64
  pub long : length counts ≡ v.clients
  pub each : (index : ℕ) → index < v.clients
      → slice_get counts index ≡ Some (option_map length (queued_of (index + 1) v.ended))
  pub clients : (c : ℕ) → IsSome (queued_of c v.ended) → IsClient v.clients c

-- the first so many counts, added up; none is 0
abbrev pub total_counted : List (Option ℕ) → ℕ → ℕ
total_counted counts zero = 0
total_counted counts (suc k) = total_counted counts k + unwrap_or (slice_index_or counts k None) 0

-- the queue may hold some items after those taken
abbrev pub HasRest : View → Type 0
HasRest v = (queue : List Numbered) × AllowsAfter (limits_of v.clients v.quota v.capacity) v.taken v.ended queue

-- the limits that a view has
abbrev pub limits_in : View → Limits
limits_in v = limits_of v.clients v.quota v.capacity
