use Rattle.std.proofs.Common.{◌≡◌, ◌++◌, drop}
use Rattle.std.specs.List.{flat_map}
use Rattle.log_summary.specs.Summary.{with_outcome, by_host, reasons, refusals}
use Rattle.log_summary.specs.inner.Groups.{groups_in}
use Rattle.log_summary.proofs.hosts.refusals.Given as goal

abbrev pub invariant-loop-reason : goal.invariant-loop-reason
invariant-loop-reason l =
    groups_in l.groups.items ++ flat_map (λ reason. by_host (with_outcome l.log reason)) (drop l.reason-index reasons) ≡ refusals l.log
