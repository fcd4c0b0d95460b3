use Rattle.std.proofs.Common.{◌≡◌, ◌++◌, drop}
use Rattle.std.specs.List.{flat_map}
use Rattle.operator_showing.specs.Followed.{change_line}
use Rattle.operator_showing.proofs.following.lines_of.Given as goal

abbrev pub invariant-loop-change : goal.invariant-loop-change
invariant-loop-change l =
    l.lines.items ++ flat_map (change_line l.json l.moment) (drop l.change-index l.changes)
    ≡ flat_map (change_line l.json l.moment) l.changes
