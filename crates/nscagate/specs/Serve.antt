-- What the daemon prints, and how it ends: `ServeEnds`. Of its file and of its
-- sockets nothing is known: a file holds some bytes, and a socket reports an address of its own.
use Rattle.std.specs.Prelude.{◌≡◌, ◌⊎◌, ◌<◌, ◌≤◌, ℕ, List, [], length, replicate, Option, Some, None, ⊤}
use Rattle.gate_model.specs.declared.record.Record.{Record}
use Rattle.gate_model.specs.Record.{items_of_records}
use Rattle.gate_streams.specs.Sink.{SinkState, FailsOnce}
use Rattle.gate_reader.specs.declared.report.Report.{Report}
use Rattle.gate_worker.specs.declared.limits.WorkerLimits.{WorkerLimits}
use Rattle.gate_worker.specs.declared.worker.Cause.{Cause}
use Rattle.gate_worker.specs.Answered.{queued_by_each, HoldsAll}
use Rattle.gate_opening.specs.Faults.{LosesNothing}
use Rattle.gate_worker.specs.Served.{AllServed}
use Rattle.gate_config.specs.declared.config.Config.{Config}
use Rattle.gate_config.specs.declared.limits.Limits.{Limits}
use Rattle.gate_faults.specs.declared.fault.RunFault.TheVariants as run
use Rattle.gate_start.specs.declared.fault.ServeFault.{ServeFault}
use Rattle.gate_start.specs.declared.fault.ServeFault.TheVariants as fault
use Rattle.gate_start.specs.AfterServing.{page_of}
use Rattle.gate_start.specs.BeforeServing.{Configures, FollowsAddresses, IsAddress, IsFaulty}

-- the limits of a worker, as they are configured
abbrev pub worker_limits : Limits → WorkerLimits
worker_limits limits = record {
  sessions = limits.sessions;
  session = record { items = limits.items; reads = limits.reads };
  greatest_age = limits.greatest_age;
}

-- a daemon of this configuration, whose clients have these reports, ran until it was closed: its addresses were printed,
-- and then the log page of records that hold all that was answered with Queued. Its workers served as it is configured;
-- of what their connections sent and their clock showed nothing is known
pub record IsRun (config : Config) (reports : List (ℕ × List Report)) (before after : SinkState) : Type 0 where
  pub records : List Record
  pub operator : Cause
  pub holds : HoldsAll config.workers (queued_by_each reports) (items_of_records records)
  pub served : AllServed (worker_limits config.limits) (λ moment. ⊤) (replicate config.workers None) None reports operator
      (items_of_records records)
  pub few : length records ≤ config.limits.limit
  pub printed : FollowsAddresses config before after (page_of config.table records)

-- a daemon of this configuration, whose clients have these reports, was closed, and not all could be applied: with
-- items that are left, its records hold all that was answered with Queued. Of how many records there are, this holds.
-- Its addresses were printed, and then the log page of these records
pub record IsUnfinished (Count : ℕ → Type 0) (config : Config) (reports : List (ℕ × List Report))
    (before after : SinkState) : Type 0 where
  pub records : List Record
  pub none_lost : LosesNothing config.workers (queued_by_each reports) (items_of_records records)
  pub count : Count (length records)
  pub printed : FollowsAddresses config before after (page_of config.table records)

-- the log of a daemon of this configuration is full: its records number the limit
abbrev pub IsFull : Config → List (ℕ × List Report) → SinkState → SinkState → Type 0
IsFull config reports before after = IsUnfinished (λ count. count ≡ config.limits.limit) config reports before after

-- memory ran out for a daemon of this configuration: it had printed its addresses alone, and served nobody; or also the
-- log page of fewer records than the limit, with items left; or it closed itself, and had printed the log page of all
-- records
pub data IsStarved (config : Config) (reports : List (ℕ × List Report)) (before after : SinkState) : Type 0 where
  addresses_alone : FollowsAddresses config before after [] → reports ≡ [] → IsStarved config reports before after
  log_so_far : IsUnfinished (λ count. count < config.limits.limit) config reports before after
      → IsStarved config reports before after
  log_whole : IsRun config reports before after → IsStarved config reports before after

-- some text configures a daemon, and this holds for its configuration
pub record IsServed (Ran : Config → Type 0) : Type 0 where
  pub text : List ℕ
  pub config : Config
  pub configured : Configures text config
  pub ran : Ran config

-- what is true of how the output grew, where a daemon, whose clients have these reports, ends without a fault or with
-- this one. At OutOfMemory nothing was printed and nobody served, or the daemon had printed its addresses
abbrev pub ServeEnds : SinkState → SinkState → List (ℕ × List Report) → Option ServeFault → Type 0
ServeEnds before after reports None = IsServed (λ config. IsRun config reports before after)
ServeEnds before after reports (Some fault.Unreadable) = after ≡ before
ServeEnds before after reports (Some (fault.Config reported)) = IsFaulty reported × (after ≡ before)
ServeEnds before after reports (Some (fault.Bind address)) = IsAddress address × (after ≡ before)
ServeEnds before after reports (Some (fault.Run run.LogFull)) = IsServed (λ config. IsFull config reports before after)
ServeEnds before after reports (Some (fault.Run run.OutOfMemory)) =
    ((reports ≡ []) × (after ≡ before)) ⊎ IsServed (λ config. IsStarved config reports before after)
ServeEnds before after reports (Some (fault.Run run.ReadFault)) = ⊥
ServeEnds before after reports (Some (fault.Run run.Spawn)) = IsServed (λ config. FollowsAddresses config before after [])
ServeEnds before after reports (Some (fault.Run run.WriteFault)) = FailsOnce before after
