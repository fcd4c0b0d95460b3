use Rattle.std.proofs.Common.{◌≡◌, ◌++◌, ◌+◌, ◌-◌}
use Rattle.std.specs.List.{flat_map, range_with_len}
use Rattle.status_view.specs.ObjectsLayout.{number_nodes}
use Rattle.status_view.proofs.objects_layout.lay_out_numbers.Given as goal

abbrev pub invariant-loop-index : goal.invariant-loop-index
invariant-loop-index l =
    l.layout ++ flat_map (number_nodes l.path l.shown) (range_with_len (l.index + 1) (l.count - l.index))
    ≡ l.fn.layout ++ flat_map (number_nodes l.path l.shown) (range_with_len 1 l.count)
