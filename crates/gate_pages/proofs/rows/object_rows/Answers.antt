use Rattle.std.proofs.Common.{◌<◌, sym, ap, ◌∙◌, arith, length}
use Rattle.std.specs.Prelude.{slice_get, option_copied}
use Rattle.gate_pages.specs.Rows.{object_row}
use Rattle.gate_pages.proofs.FillingSteps.{row-added, none-missing}
use Rattle.gate_pages.proofs.rows.object_rows.Goals as goal
use Rattle.gate_pages.proofs.rows.object_rows.Goals.{in-Some+in_ok-object_row+in_ok-push, in_default}

pub loop-place-preserved : goal.loop-place-preserved
loop-place-preserved c =
    let shown = c.args.applier.now in
    elim c.match-line.branch [
      | in-Some+in_ok-object_row+in_ok-push w ↦
          rw w.rows-is
          (row-added (object_row shown.table shown.opening shown.records shown.moment) _ c.loop-place.rows.items shown.table c.loop-place.place _ _ _
          (ap (λ lines. slice_get lines c.loop-place.place) (sym c.table-table.ensures) ∙ sym w.in-Some.ensures)
          w.in_ok-object_row.ensures
          w.in_ok-push.ensures.items
          c.loop-place.invariant)
      | in_default w ↦
          let within : c.loop-place.place < length c.table-table.result.now = omega (arith, c.loop-place-test.true, c.len-place-end.ensures.len) in
          absurd (none-missing c.table-table.result.now c.loop-place.place (sym c.line.ensures ∙ ap option_copied w.in_default.is) within)
    ]
