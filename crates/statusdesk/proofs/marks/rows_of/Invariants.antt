use Rattle.std.proofs.Common.{◌≡◌, ◌++◌, map, drop}
use Rattle.statusdesk.specs.Marks.{row_of}
use Rattle.statusdesk.proofs.marks.rows_of.Given as goal

abbrev pub invariant-loop-one : goal.invariant-loop-one
invariant-loop-one l = l.rows.items ++ map row_of (drop l.one-index l.objects) ≡ map row_of l.objects
