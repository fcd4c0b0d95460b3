use Rattle.std.proofs.Common.{◌≡◌, ◌∙◌, ◌&&◌, ℕ, not, refl, ap, sym, subst, get_or, length, arith}
use Rattle.std.specs.BinaryHeap.{heap_items}
use Rattle.gate_downtime.specs.declared.row.Row.{Row}
use Rattle.gate_downtime.specs.inner.Gone.{IsKept}
use Rattle.gate_downtime.specs.inner.Live.{Notes}
use Rattle.gate_downtime.specs.inner.Rows.{active_at, live_at, Deadlines, Sound}
use Rattle.gate_downtime.proofs.Settling.{due-within, settling-start, settling-more, settling-end}
use Rattle.gate_downtime.proofs.GoneSteps.{gone-start, gone-step, gone-end, gone-lists, gone-same, gone-trans}
use Rattle.gate_downtime.proofs.NotedSteps.{noted-start, noted-step, noted-end, noted-mark}
use Rattle.gate_downtime.proofs.tally.settle.Goals as goal

pub due-init : goal.due-init
due-init c =
    let s = c.requires.sound in
    record {
      settling = settling-start _ _ _ _ _ c.requires.order s.sound;
      gone = gone-start _ _ _ _ c.args.tally.now.gone c.requires.order s.sound.awake s.gone;
      noted = noted-start _ _ _ _ c.args.tally.now.live c.requires.order s.sound.awake s.noted;
      early = s.noted;
      objects = refl;
      gone_same = gone-same c.args.tally.now.gone;
      ids_same = refl;
      rows = refl;
      rows_capacity = refl;
      capacity = refl;
      fewer = omega arith;
    }

pub row_at-row-requires : goal.row_at-row-requires
row_at-row-requires c = omega (arith, ap length c.deref.ensures.value, due-within _ _ _ _ _ _ _ _ c.due.invariant.settling c.in-Some.ensures.some.2)

pub mark_row-requires-clause-within : goal.mark_row-requires-clause-within
mark_row-requires-clause-within c = due-within _ _ _ _ _ _ _ _ c.due.invariant.settling c.in-Some.ensures.some.2

pub mark_row-requires-clause-counters : goal.mark_row-requires-clause-counters
mark_row-requires-clause-counters c = record {
  counted = c.due.invariant.settling.fits.counted;
  placed = c.due.invariant.settling.fits.placed;
  few = c.due.invariant.settling.fits.few;
}

pub list_gone-requires-clause-within : goal.list_gone-requires-clause-within
list_gone-requires-clause-within c = omega (arith, c.due.invariant.gone.kept.len, due-within _ _ _ _ _ _ _ _ c.due.invariant.settling c.in-Some.ensures.some.2)

pub list_gone-requires-clause-room : goal.list_gone-requires-clause-room
list_gone-requires-clause-room c = omega (arith, c.due.invariant.gone.few, c.due.invariant.gone.room)

pub list_gone-requires-clause-kept : goal.list_gone-requires-clause-kept
list_gone-requires-clause-kept c =
    let P : ℕ → Type 0 = λ n. IsKept n c.due.tally.gone.marks.items (heap_items c.due.tally.gone.heap) in
    subst P (sym c.due.invariant.gone.kept.len) c.due.invariant.gone.kept

pub due-preserved : goal.due-preserved
due-preserved c =
    let row : c.row_at-row.result ≡ get_or c.due.rows.items c.in-Some.at c.row_at-row.result = c.row_at-row.ensures c.row_at-row.result ∙ ap (λ rows. get_or rows c.in-Some.at c.row_at-row.result) c.deref.ensures.value in
    let P : Row → Type 0 = λ r. Notes r.entry.scheduled.id c.has_ended-ended.result c.due.tally.live c.note_ended.new.live in
    record {
      settling =
          settling-more _ _ _ _ _ _ _ _ _ _ c.row_at-row.result _ c.due.invariant.settling c.in-Some.ensures.some.1 c.in-Some.ensures.some.2 c.in-Some.ensures.order
          (c.is_active_at-active.ensures ∙ ap (active_at c.args.now) row) c.mark_row.ensures.rows c.mark_row.ensures.counted c.mark_row.ensures.objects;
      gone =
          gone-step _ _ _ c.row_at-row.result _ _ _ _ _ _ _ _ (due-within _ _ _ _ _ _ _ _ c.due.invariant.settling c.in-Some.ensures.some.2) c.in-Some.ensures.some.2 c.mark_row.ensures.rows
          (c.is_live_at-live.ensures ∙ ap (live_at c.args.now) row) c.list_gone.ensures c.due.invariant.gone;
      noted =
          noted-step _ c.args.before _ _ c.row_at-row.result _ _ _ _ _ _ _ _ (due-within _ _ _ _ _ _ _ _ c.due.invariant.settling c.in-Some.ensures.some.2) c.in-Some.ensures.some.2 c.mark_row.ensures.rows
          (c.has_ended-ended.ensures ∙ ap (λ r. live_at c.args.before r && not (live_at c.args.now r)) row) (subst P row c.note_ended.ensures) c.due.invariant.early c.due.invariant.noted;
      early = noted-mark _ c.in-Some.at c.row_at-row.result _ _ _ _ _ _ _ (due-within _ _ _ _ _ _ _ _ c.due.invariant.settling c.in-Some.ensures.some.2) c.mark_row.ensures.rows c.note_ended.ensures c.due.invariant.early;
      objects = c.mark_row.ensures.depths ∙ c.due.invariant.objects;
      gone_same = gone-trans _ _ _ c.due.invariant.gone_same (gone-lists _ _ _ _ c.list_gone.ensures);
      ids_same = c.note_ended.ensures.ids ∙ c.due.invariant.ids_same;
      rows = c.mark_row.ensures.size.len ∙ c.due.invariant.rows;
      rows_capacity = c.mark_row.ensures.size.capacity ∙ c.due.invariant.rows_capacity;
      capacity = omega (arith, c.in-Some.ensures.capacity, c.due.invariant.capacity);
      fewer = omega (arith, c.in-Some.ensures.fewer, c.due.invariant.fewer);
    }

pub returns-clause-sound : goal.returns-clause-sound
returns-clause-sound c =
    let P : Deadlines → Type 0 = λ deadlines. Sound c.args.now c.due.rows.items c.due.tally.depths.items deadlines in
    record {
      sound = subst P (sym c.in_default.ensures.none_same) (settling-end _ _ _ _ _ c.due.invariant.settling c.in_default.ensures.none);
      gone = gone-end _ _ _ c.due.tally.gone c.due.invariant.gone c.in_default.ensures.none;
      noted = noted-end _ _ _ c.due.tally.live c.due.invariant.noted c.in_default.ensures.none;
    }
