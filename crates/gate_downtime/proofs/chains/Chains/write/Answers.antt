use Rattle.std.proofs.Common.{◌≡◌, ◌≤◌, ◌+◌, ◌*◌, ◌&&◌, not, ◌∙◌, ap, set, List, subst, sym, get_or, arith, refl}
use Rattle.std.specs.BinaryHeap.{heap_items, heap_len}
use Rattle.std.proofs.lemmas.List.Sums.{get_or-le-sum_by}
use Rattle.gate_downtime.specs.declared.row.Row.{Row}
use Rattle.gate_downtime.specs.inner.Rows.{with_active, CanCount, CanReplace, Wakes, unsettled_one, live_at}
use Rattle.gate_downtime.proofs.GoneSteps.{gone-set, gone-lists}
use Rattle.gate_downtime.proofs.NotedSteps.{noted-write}
use Rattle.gate_downtime.proofs.Fresh.{replace-sound, nearly-set}
use Rattle.gate_downtime.proofs.StackSteps.{settled-count}
use Rattle.gate_downtime.proofs.chains.Chains.write.Goals as goal

pub wake_settled-requires-clause-row : goal.wake_settled-requires-clause-row
wake_settled-requires-clause-row c =
    let old : Row = c.row_at-old.result in
    let P : Row → Type 0 = λ r. CanReplace r c.args.row in
    subst P (sym (c.row_at-old.ensures old)) (c.requires.row old)

pub wake_settled-requires-clause-awake : goal.wake_settled-requires-clause-awake
wake_settled-requires-clause-awake c =
    let old : Row = c.row_at-old.result in
    let P : Row → Type 0 = λ r. Wakes c.args.self.now.moment.0 (heap_items c.args.self.now.tally.deadlines) c.args.at r in
    subst P (sym (c.row_at-old.ensures old)) (c.requires.current.sound.sound.awake c.args.at old c.requires.within)

pub wake_settled-requires-clause-room : goal.wake_settled-requires-clause-room
wake_settled-requires-clause-room c =
    let old : Row = c.row_at-old.result in
    let one : unsettled_one old ≡ unsettled_one (get_or c.args.self.now.rows.items c.args.at old) = ap unsettled_one (c.row_at-old.ensures old) in
    omega (arith, one, c.requires.current.room, get_or-le-sum_by unsettled_one c.args.self.now.rows.items c.args.at old c.requires.within)

pub mark_row-requires-clause-counters : goal.mark_row-requires-clause-counters
mark_row-requires-clause-counters c =
    let P : List Row → Type 0 = λ rows. CanCount rows c.args.self.now.tally.depths.items in
    let nearly = nearly-set _ _ _ _ _ _ c.args.row c.requires.within c.requires.current.sound.sound c.wake_settled.ensures.adds.items c.wake_settled.ensures.wakes (λ d. (c.requires.row d).mark) (λ d. ap (λ s. s.object.place) (c.requires.row d).scheduled) in
    subst P (sym c.write_row.ensures.items) (record { counted = nearly.fits.counted; placed = nearly.fits.placed; few = nearly.fits.few })

pub returns : goal.returns
returns c =
    let old : Row = c.row_at-old.result in
    let one : unsettled_one old ≡ unsettled_one (get_or c.args.self.now.rows.items c.args.at old) = ap unsettled_one (c.row_at-old.ensures old) in
    let le : heap_len c.wake_settled.new.deadlines + 2 * unsettled_one c.args.row ≤ heap_len c.args.self.now.tally.deadlines + 2 * unsettled_one (get_or c.args.self.now.rows.items c.args.at old) = omega (arith, one, c.wake_settled.ensures.len) in
    let both = replace-sound _ _ _ _ _ _ _ _ _ _ _ c.requires.within c.write_row.ensures.items c.requires.current.sound.sound c.wake_settled.ensures.adds.items c.wake_settled.ensures.wakes (λ d. (c.requires.row d).mark) (λ d. ap (λ s. s.object.place) (c.requires.row d).scheduled)
    c.is_active_at-active.ensures c.mark_row.ensures.rows c.mark_row.ensures.counted c.mark_row.ensures.objects in
    let left = settled-count _ _ c.args.at old _ _ _ c.requires.within both.1 le in
    record {
      current = record {
        sound = record {
          sound = both.0;
          gone = gone-set _ c.args.at (with_active c.is_active_at-active.result c.args.row) _ _ _ _ _ c.requires.within both.1 c.is_live_at.ensures c.list_gone.ensures c.requires.current.sound.gone;
          noted =
              noted-write _ c.args.at old (with_active c.is_active_at-active.result c.args.row) _ _ _ _ _ c.requires.within both.1 (ap (λ s. s.id) (c.requires.row old).scheduled)
              (c.has_ended-ended.ensures ∙ ap (λ r. live_at c.args.self.now.moment.0 r && not (live_at c.args.self.now.moment.0 c.args.row)) (c.row_at-old.ensures old)) c.note_ended.ensures c.requires.current.sound.noted;
        };
        room = omega (arith, c.requires.current.room, c.wake_settled.ensures.adds.capacity, left);
      };
      rows = both.1 ∙ ap (λ a. set c.args.self.now.rows.items c.args.at (with_active a c.args.row)) c.is_active_at-active.ensures;
      pending = refl;
      kept = record {
        links = refl;
        moment = refl;
        first = refl;
        size = record {
          objects = c.mark_row.ensures.depths;
          gone_same = gone-lists _ _ _ _ c.list_gone.ensures;
          ids_same = c.note_ended.ensures.ids;
          len = c.mark_row.ensures.size.len ∙ c.write_row.ensures.size.len;
          capacity = c.mark_row.ensures.size.capacity ∙ c.write_row.ensures.size.capacity;
        };
        deadlines = record { left = left; capacity = c.wake_settled.ensures.adds.capacity };
        pending = omega arith;
      };
    }
