-- What clients queued, and lists that are a merge of it. Own rules: clients are numbered from 1, and so are the items
-- of each client.
use Rattle.std.specs.Prelude.{◌≡◌, ℕ, ◌+◌, ◌≤◌, ◌==◌, List, ◌++◌, length, filter, All, Some, slice_get}
use Rattle.gate_model.specs.declared.submission.Numbered.{Numbered}
use Rattle.gate_model.specs.declared.submission.Body.{Body}

-- the item of client c, number k and this body
abbrev pub numbered : ℕ → ℕ → Body → Numbered
numbered c k body = record { client = c; number = k; body = body }

-- c is one of n clients
abbrev pub IsClient : ℕ → ℕ → Type 0
IsClient n c = (1 ≤ c) × (c ≤ n)

-- the list is well numbered for client c: its items carry client c and the numbers 1, 2, 3 and so on
abbrev pub IsNumbered : ℕ → List Numbered → Type 0
IsNumbered c xs = (index : ℕ) (x : Numbered) → slice_get xs index ≡ Some x → (x.client ≡ c) × (x.number ≡ index + 1)

-- the items of client c, in order
abbrev pub of_client : ℕ → List Numbered → List Numbered
of_client c xs = filter (λ x. x.client == c) xs

-- every item is of one of the n clients, and those of each client c are sent c, in that order
pub record IsMerge (n : ℕ) (sent : ℕ → List Numbered) (xs : List Numbered) : Type 0 where
  pub clients : All (λ x. IsClient n x.client) xs
  pub each : (c : ℕ) → IsClient n c → of_client c xs ≡ sent c

-- of what n clients queued, what was taken and what the queue holds, nothing is lost, made or out of order
pub record IsCoreState (n quota capacity : ℕ) (sent : ℕ → List Numbered) (taken queue : List Numbered) : Type 0 where
  pub numbers : (c : ℕ) → IsClient n c → IsNumbered c (sent c)
  pub within_quota : (c : ℕ) → IsClient n c → length (sent c) ≤ quota
  pub within_capacity : length queue ≤ capacity
  pub merge : IsMerge n sent (taken ++ queue)
