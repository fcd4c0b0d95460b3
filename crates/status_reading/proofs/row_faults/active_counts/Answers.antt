use Rattle.std.proofs.Common.{take, refl, sym, ap, subst, ◌∙◌, length}
use Rattle.status_reading.specs.inner.Named.{AreCounts}
use Rattle.status_reading.proofs.RowSteps.{counts_next, counts_kept}
use Rattle.status_reading.proofs.row_faults.active_counts.Goals as goal

pub loop-row-preserved : goal.loop-row-preserved
loop-row-preserved c =
    let table = c.args.table.now in
    let entries = c.args.downtimes.now in
    let index = c.loop-row.row-index in
    let value = c.as_mut_slice.ensures.value in
    let before = subst (λ counts. AreCounts table (take index entries) counts) (sym value) c.loop-row.invariant in
    let after = c.in_ok-count_entry.ensures (take index entries) before in
    counts_kept table _ c.loop-row.counts.items c.count_entry.new.counts c.loop-row.counts.len
    c.loop-row.invariant.long (ap length (sym value) ∙ c.as_mut_slice.ensures.len)
    (counts_next table entries index _ _ c.count_entry.new.counts c.loop-row-test.true refl after)
