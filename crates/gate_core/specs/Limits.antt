-- With which limits a World is opened, and why it isn't. Own rules: 1 to 64 clients, room for 1 to 65,536 items, and a
-- quota of 1 to 4,294,967,295 items for each client.
use Rattle.std.specs.Prelude.{ℕ, ◌≡◌, ◌≤◌, Result, OnOk, IfErr}
use Rattle.gate_core.specs.declared.limits.OpenFault.{OpenFault}
use Rattle.gate_core.specs.declared.limits.OpenFault.TheVariants.{BadCount, BadCapacity, BadQuota, OutOfMemory}

-- how many clients a World has, how many items may be queued for each, and how many its queue holds at most
pub record Limits : Type 0 where
  pub clients : ℕ
  pub quota : ℕ
  pub capacity : ℕ

abbrev pub limits_of : ℕ → ℕ → ℕ → Limits
limits_of clients quota capacity = record { clients = clients; quota = quota; capacity = capacity }

-- the quota of a World that is opened without one
abbrev pub default_quota : ℕ
default_quota = 4294967295

-- from 1 to 64 clients
abbrev pub IsGoodCount : ℕ → Type 0
IsGoodCount clients = (1 ≤ clients) × (clients ≤ 64)

-- room for 1 to 65,536 items
abbrev pub IsGoodCapacity : ℕ → Type 0
IsGoodCapacity capacity = (1 ≤ capacity) × (capacity ≤ 65536)

-- the fault is the first that applies; out of memory comes after all others
abbrev pub IsOpenFault : OpenFault → ℕ → ℕ → ℕ → Type 0
IsOpenFault BadCount clients quota capacity = IsGoodCount clients → ⊥
IsOpenFault BadCapacity clients quota capacity = IsGoodCount clients × (IsGoodCapacity capacity → ⊥)
IsOpenFault BadQuota clients quota capacity = IsGoodCount clients × IsGoodCapacity capacity × (quota ≡ 0)
IsOpenFault OutOfMemory clients quota capacity = IsGoodCount clients × IsGoodCapacity capacity × (1 ≤ quota)

-- something is opened only where all numbers are within their limits, and else the first fault is answered
abbrev pub OpensWithin : {A : Type 0} → ℕ → ℕ → ℕ → Result A OpenFault → Type 0
OpensWithin clients quota capacity result =
    OnOk result (IsGoodCount clients × IsGoodCapacity capacity × (1 ≤ quota))
    × IfErr result (λ fault. IsOpenFault fault clients quota capacity)
