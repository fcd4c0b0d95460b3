use Rattle.std.proofs.Common.{take}
use Rattle.status_reading.specs.inner.Named.{AreCounts}
use Rattle.status_reading.proofs.row_faults.active_counts.Given as goal

abbrev pub invariant-loop-row : goal.invariant-loop-row
invariant-loop-row l = AreCounts l.table (take l.row-index l.downtimes) l.counts.items
