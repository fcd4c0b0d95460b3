use Rattle.std.proofs.Common.{◌≡◌, ◌++◌, drop}
use Rattle.std.specs.List.{flat_map}
use Rattle.log_summary.specs.Lines.{group_line}
use Rattle.log_summary.specs.inner.Groups.{groups_in}
use Rattle.log_summary.proofs.lines.push_groups.Given as goal

abbrev pub invariant-loop-group : goal.invariant-loop-group
invariant-loop-group l =
    l.out.items ++ flat_map group_line (groups_in (drop l.group-index l.groups)) ≡ l.fn.out.items ++ flat_map group_line (groups_in l.groups)
