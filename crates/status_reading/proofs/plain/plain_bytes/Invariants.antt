use Rattle.std.proofs.Common.{◌≡◌, ◌++◌, length}
use Rattle.status_reading.specs.Plain.{plain_bytes}
use Rattle.status_reading.proofs.plain.plain_bytes.Given as goal

abbrev pub invariant-loop-run : goal.invariant-loop-run
invariant-loop-run l = l.bytes.items ++ plain_bytes l.rest ≡ plain_bytes l.fn.field

abbrev pub decreases-loop-run : goal.decreases-loop-run
decreases-loop-run l = length l.rest
