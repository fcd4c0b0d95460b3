use Rattle.std.proofs.Common.{◌≡◌, ◌≤◌, ◌∙◌, List, arith, ap, refl, sym, subst, map, vec_len}
use Rattle.std.specs.Prelude.{filter}
use Rattle.gate_downtime.specs.declared.row.Row.{Row}
use Rattle.gate_downtime.specs.inner.Rows.{is_live_row}
use Rattle.gate_downtime.specs.inner.Live.{AreNoted, live_ids}
use Rattle.gate_downtime.proofs.NotedSteps.{live-noted}
use Rattle.gate_downtime.proofs.SpreadSteps.{spread-end}
use Rattle.gate_downtime.proofs.EntrySteps.{after-call, live-later}
use Rattle.gate_model.specs.declared.record.Moment.{Moment}
use Rattle.gate_downtime.specs.Book.{DowntimeView}
use Rattle.gate_downtime.specs.inner.Gone.{is_returned, returned_ids}
use Rattle.gate_downtime.specs.inner.Rows.{row_entries}
use Rattle.gate_downtime.proofs.Unmarked.{unsettled-same, length-same, entries-same}
use Rattle.gate_downtime.proofs.RowSteps.{spreading-same, waiting-same}
use Rattle.gate_downtime.proofs.BookSteps.{advance-stands}
use Rattle.gate_downtime.proofs.book.DowntimeBook.advance.Goals as goal

pub drop_ended-requires-clause-ascending : goal.drop_ended-requires-clause-ascending
drop_ended-requires-clause-ascending c =
    (after-call c.self.inside.chains.first c.self.inside.chains.moment.0 c.later-now.result.0 c.self.inside.chains.rows.items c.settle.new.rows.items c.self.inside.chains.tally.live c.settle.new.tally.live
    (spread-end _ _ _ (spreading-same _ _ _ _ c.settle.ensures.same c.self.invariant.spreading)) (length-same _ _ c.settle.ensures.same)
    (live-later _ _ _ _ (let early : c.self.inside.chains.moment.0 ≤ c.later-now.result.0 = omega (arith, ap (λ (m : Moment). m.0) c.later-now.ensures) in early) c.settle.ensures.same) c.self.invariant.live_is c.settle.ensures.kept.ids_same c.settle.ensures.sound.noted).ascending

pub drop_ended-requires-clause-noted : goal.drop_ended-requires-clause-noted
drop_ended-requires-clause-noted c =
    let P : List Row → Type 0 = λ rows. AreNoted (is_live_row c.self.inside.chains.first rows c.later-now.result.0) c.settle.new.tally.live in
    subst P (sym c.deref.ensures.value) (after-call c.self.inside.chains.first c.self.inside.chains.moment.0 c.later-now.result.0 c.self.inside.chains.rows.items c.settle.new.rows.items c.self.inside.chains.tally.live c.settle.new.tally.live
    (spread-end _ _ _ (spreading-same _ _ _ _ c.settle.ensures.same c.self.invariant.spreading)) (length-same _ _ c.settle.ensures.same)
    (live-later _ _ _ _ (let early : c.self.inside.chains.moment.0 ≤ c.later-now.result.0 = omega (arith, ap (λ (m : Moment). m.0) c.later-now.ensures) in early) c.settle.ensures.same) c.self.invariant.live_is c.settle.ensures.kept.ids_same c.settle.ensures.sound.noted).noted

pub invariant_of-self : goal.invariant_of-self
invariant_of-self c =
    let early : c.self.inside.chains.moment.0 ≤ c.later-now.result.0 = omega (arith, ap (λ (m : Moment). m.0) c.later-now.ensures) in
    let is : c.drop_ended.new.live.ids.items ≡ live_ids c.self.inside.chains.first c.later-now.result.0 c.settle.new.rows.items =
    c.drop_ended.ensures.ids ∙ ap (λ rows. filter (is_live_row c.self.inside.chains.first rows c.later-now.result.0) c.settle.new.tally.live.ids.items) c.deref.ensures.value
    ∙ (after-call c.self.inside.chains.first c.self.inside.chains.moment.0 c.later-now.result.0 c.self.inside.chains.rows.items c.settle.new.rows.items c.self.inside.chains.tally.live c.settle.new.tally.live
    (spread-end _ _ _ (spreading-same _ _ _ _ c.settle.ensures.same c.self.invariant.spreading)) (length-same _ _ c.settle.ensures.same)
    (live-later _ _ _ _ (let early : c.self.inside.chains.moment.0 ≤ c.later-now.result.0 = omega (arith, ap (λ (m : Moment). m.0) c.later-now.ensures) in early) c.settle.ensures.same) c.self.invariant.live_is c.settle.ensures.kept.ids_same c.settle.ensures.sound.noted).left in
    record {
      sound = record {
        sound = c.settle.ensures.sound.sound;
        gone = c.settle.ensures.sound.gone;
        noted = live-noted c.self.inside.chains.first _ _ c.drop_ended.new.live (λ k d lt. (spread-end _ _ _ (spreading-same _ _ _ _ c.settle.ensures.same c.self.invariant.spreading) k d lt).id_is) is;
      };
      spreading = spreading-same _ _ _ _ c.settle.ensures.same c.self.invariant.spreading;
      waiting = waiting-same _ _ _ _ _ _ early c.settle.ensures.same c.self.invariant.waiting;
      idle = c.self.invariant.idle;
      objects = omega (arith, c.self.invariant.objects, c.settle.ensures.kept.objects);
      ids = omega (arith, length-same _ _ c.settle.ensures.same, c.self.invariant.ids);
      small = c.self.invariant.small;
      room_rows = omega (arith, c.settle.ensures.kept.len, c.settle.ensures.kept.capacity, c.self.invariant.room_rows);
      room_links = c.self.invariant.room_links;
      room_deadlines = omega (arith, c.settle.ensures.fewer, c.settle.ensures.capacity, unsettled-same _ _ c.settle.ensures.same, c.self.invariant.room_deadlines);
      room_pending = omega (arith, c.settle.ensures.kept.len, c.self.invariant.room_pending);
      room_marks = omega (arith, c.settle.ensures.kept.gone_same.marks_len, c.settle.ensures.kept.gone_same.marks_capacity, c.self.invariant.room_marks);
      live_is = is;
      live_idle = c.drop_ended.ensures.idle;
      room_live = omega (arith, c.drop_ended.ensures.room, ap (λ ids. ids.room) c.settle.ensures.kept.ids_same, c.self.invariant.room_live);
      room_gone = omega (arith, c.settle.ensures.kept.len, c.settle.ensures.kept.gone_same.capacity, c.self.invariant.room_gone);
    }

pub returns-clause-stands : goal.returns-clause-stands
returns-clause-stands c =
    rw (← c.self.view_is)
    (advance-stands _ _ c.args.moment (entries-same _ _ c.settle.ensures.same) c.later-now.ensures refl)

pub returns-clause-value : goal.returns-clause-value
returns-clause-value c =
    rw (← c.self.view_is, entries-same _ _ c.settle.ensures.same, c.settle.ensures.kept.gone_same.same)
    (ap (λ (m : Moment). let v : DowntimeView = record { entries = row_entries c.self.inside.chains.rows.items; moment = m; first_id = c.self.inside.chains.first; objects = vec_len c.self.inside.heads; room = c.self.inside.room; returned = returned_ids c.self.inside.chains.first (map is_returned c.self.inside.chains.tally.gone.marks.items) } in v) c.later-now.ensures)
