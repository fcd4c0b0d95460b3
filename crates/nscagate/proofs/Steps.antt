-- The steps of a daemon: how they end, and what they print in all.
use Rattle.std.proofs.Common.{◌≡◌, ℕ, ◌<◌, ◌≤◌, List, [], ◌++◌, length, replicate, Option, Some, None, refl, sym, ◌∙◌, subst, inl, inr}
use Rattle.std.specs.Prelude.{Result, Ok, Err, IfOk, IfErr, IsSome, MatchOption, ⊤}
use Rattle.std.proofs.lemmas.List.{append-nil}
use Rattle.gate_model.specs.declared.object.ObjectLine.{ObjectLine}
use Rattle.gate_model.specs.Record.{items_of_records}
use Rattle.gate_applier.specs.Applier.{ApplierView}
use Rattle.gate_close.specs.declared.drained_close.CloseAllCause.{CloseAllCause}
use Rattle.gate_close.specs.declared.drained_close.CloseAllCause.TheVariants as cause
use Rattle.gate_config.specs.declared.config.Config.{Config}
use Rattle.gate_streams.specs.Sink.{SinkState, Delivers, FailsOnce}
use Rattle.gate_streams.proofs.Outputs.{fails_then, delivers_on}
use Rattle.gate_worker.specs.declared.worker.Cause.{Cause}
use Rattle.gate_worker.specs.declared.worker.Cause.TheVariants as worker
use Rattle.gate_reader.specs.declared.report.Report.{Report}
use Rattle.gate_worker.specs.declared.limits.WorkerLimits.{WorkerLimits}
use Rattle.gate_worker.specs.Answered.{reports_of_each, queued_by_each, HoldsAll}
use Rattle.gate_worker.specs.Served.{AllServed}
use Rattle.gate_daemon.specs.declared.settings.GatewaySettings.{GatewaySettings}
use Rattle.gate_opening.specs.Faults.{IsDrainFault, IsGatewayFault}
use Rattle.gate_opening.specs.declared.finished.Finished.{Finished}
use Rattle.gate_opening.specs.declared.fault.GatewayFault.{GatewayFault}
use Rattle.gate_opening.specs.declared.fault.GatewayFault.TheVariants as gateway_fault
use Rattle.gate_faults.specs.declared.fault.RunFault.TheVariants as run
use Rattle.gate_start.specs.declared.fault.ServeFault.{ServeFault}
use Rattle.gate_start.specs.declared.fault.ServeFault.TheVariants as fault
use Rattle.gate_start.specs.BeforeServing.{EndsBefore, FollowsAddresses, IsStarted, address_lines}
use Rattle.gate_start.specs.AfterServing.{IsPageGiven, EndsWith, page_of, operator_fault, close_fault, fault_after, reports_after, applier_after}
use Rattle.nscagate.specs.Serve.{ServeEnds, IsServed, IsRun, IsFull, IsStarved, worker_limits, addresses_alone, log_so_far, log_whole}
use Rattle.nscagate.specs.inner.Serving.{HasRun}

-- nothing was printed before what comes after the addresses
delivers_after : (before middle after : SinkState) (x y : List ℕ) → Delivers before middle x → Delivers middle after y → Delivers before after (x ++ y)
delivers_after before middle after x y p q = delivers_on before middle after x y (record { appended = p.appended; none_failed = p.none_failed }) q

addresses_in : (config : Config) (before after : SinkState) (p : FollowsAddresses config before after [])
    → Delivers before after (address_lines p.agents p.operators p.pages)
addresses_in config before after p = subst (λ (t : List ℕ). Delivers before after t) (append-nil (address_lines p.agents p.operators p.pages)) p.printed

-- nothing came after the addresses
alone : (config : Config) (before middle after : SinkState) → FollowsAddresses config before middle [] → after ≡ middle → FollowsAddresses config before after []
alone config before middle after printed same = subst (λ (s : SinkState). FollowsAddresses config before s []) (sym same) printed

-- the log page came after the addresses
page_after : (config : Config) (before middle after : SinkState) (applier : ApplierView) → FollowsAddresses config before middle [] → applier.table ≡ config.table
    → IsPageGiven middle after applier → FollowsAddresses config before after (page_of config.table applier.records)
page_after config before middle after applier p of_table given = record {
  agents = p.agents;
  operators = p.operators;
  pages = p.pages;
  bound = p.bound;
  printed = delivers_after before middle after _ _ (addresses_in config before middle p)
      (subst (λ (t : List ObjectLine). Delivers middle after (page_of t applier.records)) of_table given.printed);
}

-- a call failed after the addresses
fails_after : (config : Config) (before middle after : SinkState) → FollowsAddresses config before middle [] → FailsOnce middle after → FailsOnce before after
fails_after config before middle after printed k = fails_then before.tally middle.tally after.tally 1 printed.printed.none_failed k

-- it ended before it served
pub ends_before : (before after : SinkState) (found : ServeFault) → EndsBefore before after found → ServeEnds before after [] (Some found)
ends_before before after fault.Unreadable is = is
ends_before before after (fault.Config reported) is = is
ends_before before after (fault.Bind address) is = is
ends_before before after (fault.Run run.LogFull) is = absurd is
ends_before before after (fault.Run run.OutOfMemory) is = inl (refl, is)
ends_before before after (fault.Run run.ReadFault) is = absurd is
ends_before before after (fault.Run run.Spawn) is = absurd is
ends_before before after (fault.Run run.WriteFault) is = is

-- ---- a gateway

-- a gateway of this configuration reports its faults so
pub faults_of : (ran : Result Finished GatewayFault) (workers of_workers capacity of_capacity limit of_limit : ℕ) (table of_table : List ObjectLine)
    → workers ≡ of_workers → capacity ≡ of_capacity → limit ≡ of_limit → table ≡ of_table
    → IfErr ran (IsGatewayFault workers capacity limit table) → IfErr ran (IsGatewayFault of_workers of_capacity of_limit of_table)
faults_of ran workers of_workers capacity of_capacity limit of_limit table of_table same_workers same_capacity same_limit same_table k =
    subst (λ (t : List ObjectLine). IfErr ran (IsGatewayFault of_workers of_capacity of_limit t)) same_table
    (subst (λ (n : ℕ). IfErr ran (IsGatewayFault of_workers of_capacity n table)) same_limit
    (subst (λ (n : ℕ). IfErr ran (IsGatewayFault of_workers n limit table)) same_capacity
    (subst (λ (n : ℕ). IfErr ran (IsGatewayFault n capacity limit table)) same_workers k)))

-- a gateway that is run with what this configuration gives has applied all
pub has_run : (ran : Result Finished GatewayFault) (config : Config) (settings : GatewaySettings) {agents : List (Option (List (List ℕ)))} → replicate config.workers None ≡ agents
    → settings.workers ≡ config.workers → settings.worker ≡ worker_limits config.limits → settings.table ≡ config.table → settings.limit ≡ config.limits.limit
    → IfOk ran (λ finished. HoldsAll settings.workers (queued_by_each (reports_of_each finished.reports.items)) (items_of_records finished.closed.applier.records))
    → IfOk ran (λ finished. AllServed settings.worker (λ moment. ⊤) agents None (reports_of_each finished.reports.items) finished.operator (items_of_records finished.closed.applier.records))
    → IfOk ran (λ finished. finished.closed.applier.table ≡ settings.table) → IfOk ran (λ finished. finished.closed.applier.limit ≡ settings.limit) → IfOk ran (HasRun config)
has_run (Ok finished) config settings {agents} unknown workers worker table limit holds served of_table of_limit = record {
  holds = subst (λ (n : ℕ). HoldsAll n (queued_by_each (reports_of_each finished.reports.items)) (items_of_records finished.closed.applier.records)) workers holds;
  served = subst (λ (a : List (Option (List (List ℕ)))). AllServed (worker_limits config.limits) (λ moment. ⊤) a None (reports_of_each finished.reports.items) finished.operator
      (items_of_records finished.closed.applier.records)) (sym unknown)
      (subst (λ (l : WorkerLimits). AllServed l (λ moment. ⊤) agents None (reports_of_each finished.reports.items) finished.operator (items_of_records finished.closed.applier.records)) worker served);
  table = of_table ∙ table;
  limit = of_limit ∙ limit;
}
has_run (Err why) config settings {agents} unknown workers worker table limit holds served of_table of_limit = tt

-- where a close did not apply all, the log was full or memory was missing
stop_cause : (workers : ℕ) (why : CloseAllCause) (queued : List (ℕ × List ℕ)) (applier : ApplierView) → IsDrainFault workers why queued applier → IsSome (close_fault why)
stop_cause workers cause.LogFull queued applier known = refl
stop_cause workers cause.OutOfMemory queued applier known = refl
stop_cause workers cause.NotClosing queued applier known = absurd known
stop_cause workers (cause.Missing client) queued applier known = absurd known

-- a gateway that did not finish has a fault
pub has_fault : (workers capacity limit : ℕ) (table : List ObjectLine) (why : GatewayFault) → IsGatewayFault workers capacity limit table why → IsSome (fault_after (Err why))
has_fault workers capacity limit table (gateway_fault.Queue cause) known = refl
has_fault workers capacity limit table (gateway_fault.Applier cause) known = refl
has_fault workers capacity limit table gateway_fault.OutOfMemory known = refl
has_fault workers capacity limit table gateway_fault.Spawn known = refl
has_fault workers capacity limit table (gateway_fault.CloseAll gate drain reports) known =
    stop_cause workers drain.cause (queued_by_each (reports_of_each reports.items)) drain.applier known.fault

-- what holds for the configuration of a daemon that has started
served : (Ran : Config → Type 0) (config : Config) (before middle : SinkState) → IsStarted config before middle → Ran config → IsServed Ran
served Ran config before middle started ran = record { text = started.text; config = config; configured = started.configured; ran = ran }

-- memory ran out before anything came after the addresses
starved_alone : (config : Config) (before middle after : SinkState) → IsStarted config before middle → after ≡ middle → ServeEnds before after [] (Some (fault.Run run.OutOfMemory))
starved_alone config before middle after started same =
    inr (served (λ c. IsStarved c [] before after) config before middle started (addresses_alone (alone config before middle after started.printed same) refl))

-- it applied all, and its operator's worker ended so
whole_end : (operator : Cause) (config : Config) (before middle after : SinkState) (reports : List (ℕ × List Report)) → IsStarted config before middle → IsRun config reports before after → ServeEnds before after reports (operator_fault operator)
whole_end worker.OutOfMemory config before middle after reports started ran = inr (served (λ c. IsStarved c reports before after) config before middle started (log_whole ran))
whole_end worker.Closing config before middle after reports started ran = served (λ c. IsRun c reports before after) config before middle started ran
whole_end worker.TooManySessions config before middle after reports started ran = served (λ c. IsRun c reports before after) config before middle started ran
whole_end worker.NoMoreConnections config before middle after reports started ran = served (λ c. IsRun c reports before after) config before middle started ran

-- it could not apply all for this cause
close_end : (why : CloseAllCause) (drained : ApplierView) (config : Config) (before middle after : SinkState) (reports : List (ℕ × List Report)) → IsStarted config before middle
    → drained.limit ≡ config.limits.limit → IsDrainFault config.workers why (queued_by_each reports) drained → FollowsAddresses config before after (page_of config.table drained.records)
    → ServeEnds before after reports (close_fault why)
close_end cause.LogFull drained config before middle after reports started of_limit known printed =
    served (λ c. IsFull c reports before after) config before middle started
    (record { records = drained.records; none_lost = known.0; count = known.1 ∙ of_limit; printed = printed })
close_end cause.OutOfMemory drained config before middle after reports started of_limit known printed =
    inr (served (λ c. IsStarved c reports before after) config before middle started (log_so_far (record {
      records = drained.records;
      none_lost = known.0;
      count = subst (λ (n : ℕ). length drained.records < n) of_limit known.1;
      printed = printed;
    })))
close_end cause.NotClosing drained config before middle after reports started of_limit known printed = absurd known
close_end (cause.Missing client) drained config before middle after reports started of_limit known printed = absurd known

-- its log page was printed, if it has a log
page_given : (ran : Result Finished GatewayFault) (config : Config) (before middle after : SinkState) → IsStarted config before middle → IfOk ran (HasRun config)
    → IfErr ran (IsGatewayFault config.workers config.limits.capacity config.limits.limit config.table)
    → MatchOption (applier_after ran) (after ≡ middle) (IsPageGiven middle after) → ServeEnds before after (reports_after ran) (fault_after ran)
page_given (Ok finished) config before middle after started has_run known given =
    whole_end finished.operator config before middle after (reports_of_each finished.reports.items) started (record {
      records = finished.closed.applier.records;
      operator = finished.operator;
      holds = has_run.holds;
      served = has_run.served;
      few = subst (λ (n : ℕ). length finished.closed.applier.records ≤ n) has_run.limit given.few;
      printed = page_after config before middle after finished.closed.applier started.printed has_run.table given;
    })
page_given (Err (gateway_fault.CloseAll gate drain reports)) config before middle after started has_run known given =
    close_end drain.cause drain.applier config before middle after (reports_of_each reports.items) started known.of_limit known.fault
    (page_after config before middle after drain.applier started.printed known.of_table given)
page_given (Err (gateway_fault.Queue why)) config before middle after started has_run known same = starved_alone config before middle after started same
page_given (Err (gateway_fault.Applier why)) config before middle after started has_run known same = starved_alone config before middle after started same
page_given (Err gateway_fault.OutOfMemory) config before middle after started has_run known same = starved_alone config before middle after started same
page_given (Err gateway_fault.Spawn) config before middle after started has_run known same =
    served (λ c. FollowsAddresses c before after []) config before middle started (alone config before middle after started.printed same)

-- how it ends, after its addresses were printed
pub ends_on : (ran : Result Finished GatewayFault) (found : Option ServeFault) (config : Config) (before middle after : SinkState) → IsStarted config before middle → IfOk ran (HasRun config)
    → IfErr ran (IsGatewayFault config.workers config.limits.capacity config.limits.limit config.table) → EndsWith ran middle after found → ServeEnds before after (reports_after ran) found
ends_on ran found config before middle after started has_run known (inl (same, given)) =
    subst (λ (f : Option ServeFault). ServeEnds before after (reports_after ran) f) (sym same) (page_given ran config before middle after started has_run known given)
ends_on ran found config before middle after started has_run known (inr failed) =
    subst (λ (f : Option ServeFault). ServeEnds before after (reports_after ran) f) (sym failed.0) (fails_after config before middle after started.printed failed.2)
