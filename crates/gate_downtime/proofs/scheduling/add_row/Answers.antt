use Rattle.std.proofs.Common.{◌≡◌, ◌∙◌, ℕ, ap, length, subst, arith}
use Rattle.std.specs.Prelude.{count_by}
use Rattle.std.specs.BinaryHeap.{heap_len, heap_capacity}
use Rattle.std.proofs.lemmas.List.{length_push}
use Rattle.gate_downtime.specs.inner.Gone.{Lists, is_free}
use Rattle.gate_downtime.proofs.GoneSteps.{some-mark, fits-more, free-more, gone-add}
use Rattle.gate_downtime.proofs.NotedSteps.{noted-add}
use Rattle.gate_downtime.proofs.Fresh.{counters-push, add-sound, added-rows}
use Rattle.gate_downtime.proofs.scheduling.add_row.Goals as goal

pub mark_row-requires-clause-within : goal.mark_row-requires-clause-within
mark_row-requires-clause-within c = omega (arith, ap length c.push_within.ensures.items, length_push c.args.rows.now.items c.args.row, c.len-at.ensures, c.args.rows.now.ok.0)

pub mark_row-requires-clause-counters : goal.mark_row-requires-clause-counters
mark_row-requires-clause-counters c = counters-push _ _ _ _ c.args.row c.push_within.ensures.items c.requires.mark c.requires.object c.requires.few c.requires.sound.sound.fits

pub list_gone-requires-clause-within : goal.list_gone-requires-clause-within
list_gone-requires-clause-within c = omega (arith, ap length c.push_mark.ensures.marks, length_push c.args.tally.now.gone.marks.items some-mark, c.requires.sound.gone.kept.len, c.len-at.ensures, c.args.rows.now.ok.0)

pub list_gone-requires-clause-room : goal.list_gone-requires-clause-room
list_gone-requires-clause-room c =
    omega (
      arith,
      ap (λ h. heap_len h) c.push_mark.ensures.heap,
      ap (λ h. heap_capacity h) c.push_mark.ensures.heap,
      ap (count_by is_free) c.push_mark.ensures.marks,
      free-more c.args.tally.now.gone.marks.items,
      c.requires.sound.gone.few,
      c.requires.gone,
    )

pub list_gone-requires-clause-kept : goal.list_gone-requires-clause-kept
list_gone-requires-clause-kept c = fits-more _ c.args.tally.now.gone c.push_mark.new.gone c.push_mark.ensures.marks c.push_mark.ensures.heap c.requires.sound.gone.kept

pub returns-clause-sound : goal.returns-clause-sound
returns-clause-sound c = record {
  sound = (add-sound _ _ _ _ _ _ _ _ _ _ _ (c.len-at.ensures ∙ c.args.rows.now.ok.0) c.push_within.ensures.items c.requires.sound.sound c.wake_row.ensures.adds.items c.wake_row.ensures.wakes c.requires.mark c.requires.object c.requires.few
      c.is_active_at-active.ensures c.mark_row.ensures.rows c.mark_row.ensures.counted c.mark_row.ensures.objects).0;
  gone =
      let at : c.len-at.result ≡ length c.args.rows.now.items = c.len-at.ensures ∙ c.args.rows.now.ok.0 in
      let P : ℕ → Type 0 = λ i. Lists i c.is_live_at.result c.push_mark.new.gone c.list_gone.new.gone in
      gone-add _ c.args.row _ _ _ _ _ _ _ (added-rows _ _ _ c.args.row c.len-at.result _ at c.push_within.ensures.items c.mark_row.ensures.rows) c.push_mark.ensures.marks c.push_mark.ensures.heap c.requires.gone
      c.is_live_at.ensures (subst P at c.list_gone.ensures) c.requires.sound.gone;
  noted =
      noted-add _ c.args.row c.is_active_at-active.result _ _ c.args.tally.now.live
      (added-rows _ _ _ c.args.row c.len-at.result _ (c.len-at.ensures ∙ c.args.rows.now.ok.0) c.push_within.ensures.items c.mark_row.ensures.rows) c.requires.fresh c.requires.sound.noted;
}

pub returns-clause-rows : goal.returns-clause-rows
returns-clause-rows c =
    (add-sound _ _ _ _ _ _ _ _ _ _ _ (c.len-at.ensures ∙ c.args.rows.now.ok.0) c.push_within.ensures.items c.requires.sound.sound c.wake_row.ensures.adds.items c.wake_row.ensures.wakes c.requires.mark c.requires.object c.requires.few
    c.is_active_at-active.ensures c.mark_row.ensures.rows c.mark_row.ensures.counted c.mark_row.ensures.objects).1
