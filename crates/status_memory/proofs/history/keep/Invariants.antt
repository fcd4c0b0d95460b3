use Rattle.std.proofs.Common.{◌≡◌, ◌++◌, map}
use Rattle.std.specs.Vec.Iter.{into_iter_items}
use Rattle.circular_buffer.specs.Buffer.{keep_last}
use Rattle.status_memory.specs.History.{change_view}
use Rattle.status_memory.proofs.history.keep.Given as goal

abbrev pub invariant-loop-change : goal.invariant-loop-change
invariant-loop-change l = record {
  room : l.kept.capacity ≡ 1000;
  kept : keep_last 1000 (map change_view l.kept.items ++ map change_view (into_iter_items l.change-iterator))
      ≡ keep_last 1000 (map change_view l.fn.kept.items ++ map change_view l.fn.changes.items);
}
