use Rattle.std.proofs.Common.{◌≡◌, ◌+◌, ◌++◌, length}
use Rattle.std.specs.Prelude.{reverse}
use Rattle.gate_foresight.specs.Foresight.{applied_from, moment_after}
use Rattle.gate_foresight.proofs.foresight.applied_all.Given as goal

abbrev pub invariant-loop-record : goal.invariant-loop-record
invariant-loop-record l = record {
  records : l.applier.records ++ applied_from l.applier.moment (reverse l.left.items)
      ≡ l.fn.applier.records ++ applied_from l.fn.applier.moment l.fn.records.items;
  moment : moment_after l.applier.moment (reverse l.left.items) ≡ moment_after l.fn.applier.moment l.fn.records.items;
  counted : length l.applier.records + length l.left.items ≡ length l.fn.applier.records + length l.fn.records.items;
  limit : l.applier.limit ≡ l.fn.applier.limit;
  opening : l.applier.opening ≡ l.fn.applier.opening;
  table : l.applier.table ≡ l.fn.applier.table;
}

abbrev pub decreases-loop-record : goal.decreases-loop-record
decreases-loop-record l = length l.left.items
