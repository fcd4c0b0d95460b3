use Rattle.std.proofs.Common.{◌≡◌, ◌++◌, map, drop}
use Rattle.std.specs.List.{enumerate_from}
use Rattle.gate_pages.specs.Rows.{object_row, object_rows}
use Rattle.gate_pages.proofs.rows.object_rows.Given as goal

abbrev pub invariant-loop-place : goal.invariant-loop-place
invariant-loop-place l =
    let shown = l.applier in
    l.rows.items
    ++ map (object_row shown.table shown.opening shown.records shown.moment) (enumerate_from l.place (drop l.place shown.table))
    ≡ object_rows shown.table shown.opening shown.records shown.moment
