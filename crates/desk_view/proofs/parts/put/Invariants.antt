use Rattle.std.proofs.Common.{◌≡◌, ◌++◌, map, drop}
use Rattle.desk_view.specs.Parts.{part_view}
use Rattle.status_view.specs.Filling.{html_bytes}
use Rattle.desk_view.proofs.parts.put.Given as goal

abbrev pub invariant-loop-part : goal.invariant-loop-part
invariant-loop-part l =
    l.html ++ html_bytes (map part_view (drop l.part-index l.parts)) ≡ l.initial.html ++ html_bytes (map part_view l.parts)
