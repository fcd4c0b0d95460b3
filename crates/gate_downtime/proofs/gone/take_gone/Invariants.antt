use Rattle.std.specs.BinaryHeap.{heap_len}
use Rattle.gate_downtime.specs.inner.Gone.{AllGone, SameGone}
use Rattle.gate_downtime.proofs.gone.take_gone.Given as goal

abbrev pub invariant-listed : goal.invariant-listed
invariant-listed l = record {
  gone : AllGone l.now l.rows l.gone;
  same : SameGone l.initial.gone l.gone;
}

abbrev pub decreases-listed : goal.decreases-listed
decreases-listed l = heap_len l.gone.heap
