use Rattle.std.proofs.Common.{◌≡◌, ◌++◌, length}
use Rattle.std.specs.Prelude.{reverse}
use Rattle.log_reading.specs.Log.{accepted_in}
use Rattle.log_reading.proofs.logged.accepted_records.Given as goal

abbrev pub invariant-loop-one : goal.invariant-loop-one
invariant-loop-one l = l.records.items ++ accepted_in (reverse l.left.items) ≡ accepted_in l.fn.log.items

abbrev pub decreases-loop-one : goal.decreases-loop-one
decreases-loop-one l = length l.left.items
