-- Only proofs and private functions use this: what the gateway of a daemon leaves.
use Rattle.std.specs.Prelude.{◌≡◌, List, replicate, None, ⊤}
use Rattle.gate_model.specs.Record.{items_of_records}
use Rattle.gate_worker.specs.Answered.{reports_of_each, queued_by_each, HoldsAll}
use Rattle.gate_worker.specs.Served.{AllServed}
use Rattle.gate_opening.specs.declared.finished.Finished.{Finished}
use Rattle.gate_config.specs.declared.config.Config.{Config}
use Rattle.nscagate.specs.Serve.{worker_limits}

-- a gateway of this configuration applied all that was queued
pub record HasRun (config : Config) (finished : Finished) : Type 0 where
  pub holds : HoldsAll config.workers (queued_by_each (reports_of_each finished.reports.items))
      (items_of_records finished.closed.applier.records)
  pub served : AllServed (worker_limits config.limits) (λ moment. ⊤) (replicate config.workers None) None
      (reports_of_each finished.reports.items) finished.operator (items_of_records finished.closed.applier.records)
  pub table : finished.closed.applier.table ≡ config.table
  pub limit : finished.closed.applier.limit ≡ config.limits.limit
