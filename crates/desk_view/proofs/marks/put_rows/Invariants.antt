use Rattle.std.proofs.Common.{◌≡◌, ◌++◌, map, drop}
use Rattle.std.specs.List.{flat_map, enumerate_from}
use Rattle.status_reading.specs.Rows.{object_view}
use Rattle.status_view.specs.Filling.{html_bytes}
use Rattle.desk_view.specs.Marks.{mark_row, rows_parts}
use Rattle.desk_view.proofs.marks.put_rows.Given as goal

abbrev pub invariant-loop-index : goal.invariant-loop-index
invariant-loop-index l =
    l.html ++ html_bytes (flat_map mark_row (enumerate_from l.index (map object_view (drop l.index l.rows))))
    ≡ l.fn.html ++ html_bytes (rows_parts (map object_view l.rows))
