-- What the clients of a gateway were answered, and that its log holds it. Own rules: the numbers of clients and of
-- items.
use Rattle.std.specs.Prelude.{◌≡◌, ℕ, ◌+◌, List, ◌∷◌, All, Vec, length, map}
use Rattle.gate_model.specs.declared.submission.Numbered.{Numbered}
use Rattle.gate_core.specs.Merge.{IsClient, of_client}
use Rattle.gate_reader.specs.declared.report.Report.{Report}
use Rattle.gate_worker.specs.Numbers.{item_numbers, numbers_after, reported_numbers}

-- each client's number, and its reports
abbrev pub reports_of_each : {Allocator : Type 0} → List (ℕ × Vec Report Allocator) → List (ℕ × List Report)
reports_of_each reports = map (λ pair. (pair.0, pair.1.items)) reports

-- each client's number, and the numbers that its reports answer with Queued
abbrev pub queued_by_each : List (ℕ × List Report) → List (ℕ × List ℕ)
queued_by_each reports = map (λ pair. (pair.0, reported_numbers pair.1)) reports

-- of a gateway with so many agents' workers, each client with the numbers that it was answered are queued: all its
-- clients are there, the operator, who is the last, and then those of the workers, from 1; each was answered 1, 2 and
-- so on; and the log holds for each of them these items, in this order, and nobody else's
pub record HoldsAll (workers : ℕ) (queued : List (ℕ × List ℕ)) (log : List Numbered) : Type 0 where
  pub clients : map (λ pair. pair.0) queued ≡ (workers + 1) ∷ numbers_after 0 workers
  pub counted : All (λ pair. pair.1 ≡ numbers_after 0 (length pair.1)) queued
  pub answered : map (λ pair. item_numbers (of_client pair.0 log)) queued ≡ map (λ pair. pair.1) queued
  pub items : All (λ item. IsClient (workers + 1) item.client) log
