use Rattle.std.proofs.Common.{◌≡◌, ◌≤◌, vec_len, vec_capacity}
use Rattle.std.specs.BinaryHeap.{heap_items, heap_len, heap_capacity}
use Rattle.gate_downtime.specs.inner.Rows.{Settling}
use Rattle.gate_downtime.specs.inner.Gone.{GoneOrDue, SameGone}
use Rattle.gate_downtime.specs.inner.Live.{NotedOrDue, AllNoted}
use Rattle.gate_downtime.proofs.tally.settle.Given as goal

abbrev pub invariant-due : goal.invariant-due
invariant-due l = record {
  settling : Settling l.now l.initial.rows.items l.rows.items l.tally.depths.items (heap_items l.tally.deadlines);
  gone : GoneOrDue l.now l.rows.items (heap_items l.tally.deadlines) l.tally.gone;
  noted : NotedOrDue l.now l.rows.items (heap_items l.tally.deadlines) l.tally.live;
  early : AllNoted l.before l.rows.items l.tally.live;
  objects : vec_len l.tally.depths ≡ vec_len l.initial.tally.depths;
  gone_same : SameGone l.initial.tally.gone l.tally.gone;
  ids_same : l.tally.live.ids ≡ l.initial.tally.live.ids;
  rows : vec_len l.rows ≡ vec_len l.initial.rows;
  rows_capacity : vec_capacity l.rows ≡ vec_capacity l.initial.rows;
  capacity : heap_capacity l.tally.deadlines ≡ heap_capacity l.initial.tally.deadlines;
  fewer : heap_len l.tally.deadlines ≤ heap_len l.initial.tally.deadlines;
}

abbrev pub decreases-due : goal.decreases-due
decreases-due l = heap_len l.tally.deadlines
