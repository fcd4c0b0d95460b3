use Rattle.std.proofs.Common.{◌≡◌, ◌++◌, drop}
use Rattle.std.specs.List.{flat_map}
use Rattle.log_summary.specs.Lines.{group_json}
use Rattle.log_summary.specs.inner.Groups.{groups_in}
use Rattle.log_summary.proofs.json_lines.push_groups.Given as goal

abbrev pub invariant-loop-group : goal.invariant-loop-group
invariant-loop-group l =
    l.out.items ++ flat_map group_json (groups_in (drop l.group-index l.groups)) ≡ l.fn.out.items ++ flat_map group_json (groups_in l.groups)
