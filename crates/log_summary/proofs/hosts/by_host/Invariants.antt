use Rattle.std.proofs.Common.{take}
use Rattle.log_summary.specs.Summary.{host_of}
use Rattle.log_summary.specs.inner.Groups.{values_in, hosts_in, groups_in}
use Rattle.log_summary.proofs.GroupSteps.{IsGrouped}
use Rattle.log_summary.proofs.hosts.by_host.Given as goal

abbrev pub invariant-loop-one : goal.invariant-loop-one
invariant-loop-one l = IsGrouped host_of (values_in (take l.one-index l.log)) (hosts_in l.hosts.keys) (groups_in l.groups.items)
