-- What a gateway is opened with, and why it can't be opened. Own rules.
use Rattle.std.specs.Prelude.{◌≡◌, ℕ, ◌+◌, [], length, None, true, false}
use Rattle.gate_core.specs.Limits.{default_quota, IsOpenFault}
use Rattle.gate_applier.specs.Applier.{is_limit}
use Rattle.gate_applier.specs.declared.applier.OpenCause.TheVariants.{BadLimit}
use Rattle.gate_queue.specs.Client.{client_state}
use Rattle.gate_queue.specs.Opening.{new_clients}
use Rattle.gate_opening.specs.declared.opening.Opening.{Opening}
use Rattle.gate_opening.specs.declared.opening.Parts.{Parts}
use Rattle.gate_opening.specs.declared.fault.GatewayFault.{GatewayFault}
use Rattle.gate_opening.specs.declared.fault.GatewayFault.TheVariants as fault
use Rattle.gate_worker.specs.Joining.{HasRoom}

-- the parts of a new gate, with a client for each of so many agents' workers and one more, the operator's
pub record IsOpening (workers : ℕ) (opening : Opening) : Type 0 where
  pub count : opening.gate.limits.clients ≡ workers + 1
  pub taker : opening.taker.gate ≡ opening.gate
  pub none_in : opening.taker.ended ≡ []
  pub none_taken : opening.taker.taken ≡ []
  pub closer : opening.closer.cell ≡ opening.gate.cell
  pub clients : opening.clients.items ≡ new_clients opening.gate workers
  pub each : length opening.clients.items ≡ workers
  pub last : opening.last ≡ client_state opening.gate (workers + 1) [] None

-- the parts of a gateway with so many workers, which has applied nothing
pub record AreParts (workers : ℕ) (parts : Parts) : Type 0 where
  pub opening : IsOpening workers parts.opening
  pub none_applied : parts.applier.records ≡ []
  pub room : HasRoom (workers + 1) parts.collected

-- why a gateway with so many workers, this capacity and this limit can't be opened
abbrev pub IsUnopened : ℕ → ℕ → ℕ → GatewayFault → Type 0
IsUnopened workers capacity limit (fault.Queue why) = IsOpenFault why (workers + 1) default_quota capacity
IsUnopened workers capacity limit (fault.Applier why) = why ≡ BadLimit → is_limit limit ≡ false
IsUnopened workers capacity limit fault.OutOfMemory = is_limit limit ≡ true
IsUnopened workers capacity limit _ = ⊥
