use Rattle.std.proofs.Common.{◌++◌, map, append-nil, sym, ap, ◌∙◌}
use Rattle.gate_pages.specs.Rows.{downtime_row}
use Rattle.gate_pages.proofs.FillingSteps.{first-added}
use Rattle.gate_pages.proofs.rows.downtime_rows.Goals as goal

pub loop-entry-init : goal.loop-entry-init
loop-entry-init c =
    let shown = c.args.applier.now in
    let show = downtime_row shown.table shown.records shown.moment in
    ap (λ front. front ++ map show c.into_iter-entry-iterator.result) c.new-rows.ensures.items
    ∙ ap (map show) (c.into_iter-entry-iterator.ensures.into_iter_gives ∙ c.downtimes-entry-items.ensures)

pub loop-entry-preserved : goal.loop-entry-preserved
loop-entry-preserved c =
    let shown = c.args.applier.now in
    first-added (downtime_row shown.table shown.records shown.moment) c.push.new.self.items c.loop-entry.rows.items c.loop-entry.entry-iterator c.next.new.self c.in-Some.entry
    c.in_ok-downtime_row.field-0 _ c.in-Some.ensures.steps c.in_ok-downtime_row.ensures c.in_ok-push.ensures.items c.loop-entry.invariant

pub returns : goal.returns
returns c =
    let shown = c.args.applier.now in
    sym (append-nil c.loop-entry.rows.items)
    ∙ ap (λ left. c.loop-entry.rows.items ++ map (downtime_row shown.table shown.records shown.moment) left) (sym c.in-None.ensures.steps.0)
    ∙ c.loop-entry.invariant
