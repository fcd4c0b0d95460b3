use Rattle.std.proofs.Common.{map}
use Rattle.std.specs.List.{enumerate_from}
use Rattle.std.specs.Prelude.{get_or, ℕ}
use Rattle.status_reading.specs.Rows.{ObjectView, object_view}
use Rattle.status_reading.specs.RowFaults.{object_fault, first_from}
use Rattle.status_reading.proofs.RowSteps.{IsFirstFrom}
use Rattle.status_reading.proofs.row_faults.objects_fault.Given as goal

abbrev pub invariant-loop-place : goal.invariant-loop-place
invariant-loop-place l =
    IsFirstFrom l.counts object_view l.objects
    (first_from 2 (map (λ (one : ℕ × ObjectView). object_fault (get_or l.counts one.0 0) one.1) (enumerate_from 0 (map object_view l.objects))))
    l.place
