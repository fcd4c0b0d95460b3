use Rattle.std.proofs.Common.{◌≡◌, ◌++◌, drop}
use Rattle.std.specs.List.{flat_map, enumerate_from}
use Rattle.status_view.specs.Layout.{each_indexed}
use Rattle.status_view.specs.ChangesLayout.{change_nodes}
use Rattle.status_view.proofs.changes.lay_out_changes.Given as goal

abbrev pub invariant-loop-index : goal.invariant-loop-index
invariant-loop-index l =
    l.layout ++ flat_map (λ item. change_nodes item.0 item.1) (enumerate_from l.index (drop l.index l.rows))
    ≡ l.fn.layout ++ each_indexed change_nodes l.rows
