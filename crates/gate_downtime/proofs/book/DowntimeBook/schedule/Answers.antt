use Rattle.std.proofs.Common.{ℕ, [], ◌∷◌, ◌++◌, cond, map, ◌≡◌, ◌+◌, ◌||◌, eqb, length, arith, sym, ap, ◌∙◌, subst, refl, inl, inr}
use Rattle.std.specs.Prelude.{is_some}
use Rattle.std.proofs.lemmas.List.{length_push}
use Rattle.gate_model.specs.declared.downtime.Entry.{Entry}
use Rattle.gate_downtime.specs.inner.Scheduling.{IsTrigger, settled_by}
use Rattle.gate_downtime.specs.declared.live.LiveIds.{LiveIds}
use Rattle.gate_downtime.specs.inner.Live.{live_ids}
use Rattle.gate_downtime.specs.inner.Links.{IsLinkedMore, Spreading}
use Rattle.gate_downtime.proofs.NotedSteps.{live-noted}
use Rattle.gate_downtime.proofs.EntrySteps.{live-push, not-among}
use Rattle.gate_downtime.specs.inner.Inside.{book_view}
use Rattle.gate_downtime.specs.inner.Gone.{is_returned}
use Rattle.gate_downtime.proofs.ReturnSteps.{returned-push}
use Rattle.gate_downtime.proofs.Unmarked.{unsettled-same, length-same}
use Rattle.gate_downtime.proofs.SpreadSteps.{spread-end}
use Rattle.gate_downtime.proofs.LiveSteps.{live-row, no-trigger, ids-spent, id-given}
use Rattle.gate_downtime.proofs.RowSteps.{spreading-same, spreading-push, waiting-same, unsettled-push-le}
use Rattle.gate_downtime.proofs.LinkSteps.{lists-push, MoreLists}
use Rattle.gate_downtime.proofs.BookSteps.{schedule-stands, length-entries, fresh-entries}
use Rattle.gate_downtime.proofs.book.DowntimeBook.schedule.Goals as goal

pub returns-in_default-clause-answer : goal.returns-in_default-clause-answer
returns-in_default-clause-answer c =
    rw (← c.self.view_is)
    (no-trigger c.args.plan (book_view c.self.inside) c.if-plan.false c.if-plan-self.false
    (ap (λ b. eqb c.args.plan.trigger 0 || b) (sym (live-row _ _ _ _ (spread-end _ _ _ c.self.invariant.spreading))) ∙ sym c.find_trigger.ensures.live ∙ ap is_some c.in_default.is))

pub returns-in_default-try_from-clause-answer : goal.returns-in_default-try_from-clause-answer
returns-in_default-try_from-clause-answer c =
    let count : c.len.result ≡ length c.self.inside.chains.rows.items = c.len.ensures ∙ c.self.inside.chains.rows.ok.0 in
    rw (← c.self.view_is)
    (ids-spent c.args.plan (book_view c.self.inside) c.if-plan.false c.if-plan-self.false
    (ap (λ b. eqb c.args.plan.trigger 0 || b) (sym (live-row _ _ _ _ (spread-end _ _ _ c.self.invariant.spreading))) ∙ sym c.find_trigger.ensures.live ∙ ap is_some c.in-Some.is)
    (omega (arith, c.in_default-try_from.ensures, count, length-entries c.self.inside.chains.rows.items)))

pub add_row-requires-clause-fresh : goal.add_row-requires-clause-fresh
add_row-requires-clause-fresh c =
    let count : c.len.result ≡ length c.self.inside.chains.rows.items = c.len.ensures ∙ c.self.inside.chains.rows.ok.0 in
    let id : c.fresh_row-row.result.entry.scheduled.id ≡ c.self.inside.chains.first + length c.self.inside.chains.rows.items = ap (λ (e : Entry). e.scheduled.id) c.fresh_row-row.ensures.entry ∙ omega (arith, c.in-Ok.ensures.1, count) in
    not-among c.self.inside.chains.first c.self.inside.chains.moment.0 _ c.self.inside.chains.rows.items _ c.self.invariant.live_is id

pub push_live-requires : goal.push_live-requires
push_live-requires c =
    omega (
      arith,
      ap (λ (l : LiveIds). l.ids.room) c.add_row.ensures.live_same,
      c.self.invariant.room_live,
      c.requires.room,
      ap (λ v. v.room) c.self.view_is,
    )

pub invariant_of-self : goal.invariant_of-self
invariant_of-self c =
    let count : c.len.result ≡ length c.self.inside.chains.rows.items = c.len.ensures ∙ c.self.inside.chains.rows.ok.0 in
    let plan : c.fresh_row-row.result.entry.scheduled.plan.trigger ≡ c.args.plan.trigger = ap (λ (e : Entry). e.scheduled.plan.trigger) c.fresh_row-row.ensures.entry in
    let id : c.fresh_row-row.result.entry.scheduled.id ≡ c.self.inside.chains.first + length c.self.inside.chains.rows.items = ap (λ (e : Entry). e.scheduled.id) c.fresh_row-row.ensures.entry ∙ omega (arith, c.in-Ok.ensures.1, count) in
    let long : length c.add_row.new.rows.items ≡ length c.self.inside.chains.rows.items + 1 = length-same _ _ c.add_row.ensures.rows ∙ length_push c.self.inside.chains.rows.items c.fresh_row-row.result in
    let P : ℕ → Type 0 = λ x. IsTrigger c.self.inside.chains.first c.self.inside.chains.rows.items x c.in-Some.trigger in
    let trigger : IsTrigger c.self.inside.chains.first c.self.inside.chains.rows.items c.fresh_row-row.result.entry.scheduled.plan.trigger c.in-Some.trigger = subst P (sym plan) c.in-Some.ensures.found in
    let R : Entry → Type 0 = λ e. IsLinkedMore c.self.inside.chains.links.items c.self.inside.heads.items c.in-Some.trigger.at e.scheduled.plan.fixed e.scheduled.object.place c.link_row.new.links.items c.link_row.new.heads.items in
    let lists : MoreLists c.self.inside.chains.first c.self.inside.chains.moment.0 c.self.inside.chains.rows.items c.fresh_row-row.result c.link_row.new.links.items c.link_row.new.heads.items =
    lists-push _ _ _ _ _ _ _ _ c.in-Some.trigger.at c.self.invariant.spreading.from c.self.invariant.spreading.placed c.self.invariant.spreading.linked c.self.invariant.waiting
    (elim trigger [ inl w ↦ inl w | inr w ↦ inr (w.low, w.high, w.at) ])
    (subst R (sym c.fresh_row-row.ensures.entry) c.link_row.ensures.linked) in
    let is : c.push_live.new.live.ids.items ≡ live_ids c.self.inside.chains.first c.self.inside.chains.moment.0 c.add_row.new.rows.items =
    c.push_live.ensures.ids ∙ ap (λ (l : LiveIds). cond c.is_live_at.result (l.ids.items ++ c.in-Ok.id ∷ []) l.ids.items) c.add_row.ensures.live_same
    ∙ ap (λ xs. cond c.is_live_at.result (xs ++ c.in-Ok.id ∷ []) xs) c.self.invariant.live_is
    ∙ ap (λ b. cond b (live_ids c.self.inside.chains.first c.self.inside.chains.moment.0 c.self.inside.chains.rows.items ++ c.in-Ok.id ∷ []) (live_ids c.self.inside.chains.first c.self.inside.chains.moment.0 c.self.inside.chains.rows.items)) c.is_live_at.ensures
    ∙ sym (live-push c.self.inside.chains.first _ c.fresh_row-row.result c.self.inside.chains.rows.items _ c.in-Ok.id c.add_row.ensures.rows (omega (arith, c.in-Ok.ensures.1, count))) in
    let spreading : Spreading c.self.inside.chains.first c.add_row.new.rows.items c.link_row.new.links.items [] =
    spreading-same _ _ _ _ c.add_row.ensures.rows
    (spreading-push _ _ _ _ _ _ c.self.invariant.spreading id trigger c.fresh_row-row.ensures.follows
    (c.fresh_row-row.ensures.settled ∙ sym (ap (λ (e : Entry). settled_by e.scheduled c.in-Some.trigger) c.fresh_row-row.ensures.entry)) lists.linked) in
    record {
      sound = record {
        sound = c.add_row.ensures.sound.sound;
        gone = c.add_row.ensures.sound.gone;
        noted = live-noted c.self.inside.chains.first _ _ c.push_live.new.live (λ k d lt. (spread-end _ _ _ spreading k d lt).id_is) is;
      };
      spreading = spreading;
      waiting = waiting-same _ _ _ _ _ _ (omega arith) c.add_row.ensures.rows lists.waiting;
      idle = c.self.invariant.idle;
      objects = omega (arith, c.link_row.ensures.heads_len, c.add_row.ensures.objects, c.self.invariant.objects);
      ids = omega (arith, long, c.in-Ok.ensures.0, count);
      small = omega (arith, c.self.invariant.small);
      room_rows = omega (arith, c.add_row.ensures.size.len, c.add_row.ensures.size.capacity, c.self.invariant.room_rows, c.requires.room, ap (λ v. v.room) c.self.view_is);
      room_links = omega (arith, c.link_row.ensures.size.len, c.link_row.ensures.size.capacity, c.self.invariant.room_links, c.requires.room, ap (λ v. v.room) c.self.view_is);
      room_deadlines =
          omega (
            arith,
            c.add_row.ensures.deadlines.len,
            c.add_row.ensures.deadlines.capacity,
            c.self.invariant.room_deadlines,
            c.requires.room,
            ap (λ v. v.room) c.self.view_is,
            unsettled-same _ _ c.add_row.ensures.rows,
            unsettled-push-le c.self.inside.chains.rows.items c.fresh_row-row.result,
          );
      room_pending = omega (arith, c.add_row.ensures.size.len, c.self.invariant.room_pending, c.requires.room, ap (λ v. v.room) c.self.view_is);
      room_marks = omega (arith, c.add_row.ensures.gone_more.marks_len, c.add_row.ensures.gone_more.marks_capacity, c.self.invariant.room_marks, c.requires.room, ap (λ v. v.room) c.self.view_is);
      live_is = is;
      live_idle = record {
        none = ap (λ ended. ended.items) c.push_live.ensures.ended ∙ ap (λ (l : LiveIds). l.ended.items) c.add_row.ensures.live_same ∙ c.self.invariant.live_idle.none;
        few = c.push_live.ensures.many ∙ ap (λ (l : LiveIds). l.many) c.add_row.ensures.live_same ∙ c.self.invariant.live_idle.few;
      };
      room_live =
          omega (
            arith,
            c.push_live.ensures.room,
            ap (λ (l : LiveIds). l.ids.room) c.add_row.ensures.live_same,
            c.self.invariant.room_live,
            c.requires.room,
            ap (λ v. v.room) c.self.view_is,
          );
      room_gone = omega (arith, c.add_row.ensures.size.len, c.add_row.ensures.gone_more.capacity, c.self.invariant.room_gone, c.requires.room, ap (λ v. v.room) c.self.view_is);
    }

pub returns-clause-entries : goal.returns-clause-entries
returns-clause-entries c =
    let count : c.len.result ≡ length c.self.inside.chains.rows.items = c.len.ensures ∙ c.self.inside.chains.rows.ok.0 in
    rw (← c.self.view_is)
    (fresh-entries (book_view c.self.inside) _ c.add_row.new.rows.items c.fresh_row-row.result c.in-Ok.id c.args.object c.args.plan refl c.add_row.ensures.rows c.fresh_row-row.ensures.entry
    (let given : c.in-Ok.id ≡ c.self.inside.chains.first + length c.self.inside.chains.rows.items = omega (arith, c.in-Ok.ensures.1, count) in given))

pub returns-clause-stands : goal.returns-clause-stands
returns-clause-stands c =
    let count : c.len.result ≡ length c.self.inside.chains.rows.items = c.len.ensures ∙ c.self.inside.chains.rows.ok.0 in
    rw (← c.self.view_is)
    (schedule-stands (book_view c.self.inside) _ c.args.object c.args.plan
    (fresh-entries (book_view c.self.inside) _ c.add_row.new.rows.items c.fresh_row-row.result c.in-Ok.id c.args.object c.args.plan refl c.add_row.ensures.rows c.fresh_row-row.ensures.entry
    (let given : c.in-Ok.id ≡ c.self.inside.chains.first + length c.self.inside.chains.rows.items = omega (arith, c.in-Ok.ensures.1, count) in given)) refl refl)

pub returns-clause-answer : goal.returns-clause-answer
returns-clause-answer c =
    let count : c.len.result ≡ length c.self.inside.chains.rows.items = c.len.ensures ∙ c.self.inside.chains.rows.ok.0 in
    rw (← c.self.view_is)
    (id-given c.args.plan (book_view c.self.inside) c.in-Ok.id c.if-plan.false c.if-plan-self.false
    (ap (λ b. eqb c.args.plan.trigger 0 || b) (sym (live-row _ _ _ _ (spread-end _ _ _ c.self.invariant.spreading))) ∙ sym c.find_trigger.ensures.live ∙ ap is_some c.in-Some.is)
    (omega (arith, c.in-Ok.ensures.0, count, length-entries c.self.inside.chains.rows.items))
    (omega (arith, c.in-Ok.ensures.1, count, length-entries c.self.inside.chains.rows.items)))

pub returns-clause-same : goal.returns-clause-same
returns-clause-same c =
    rw (← c.self.view_is, c.link_row.ensures.heads_len, c.add_row.ensures.gone_more.more, returned-push c.self.inside.chains.first (map is_returned c.self.inside.chains.tally.gone.marks.items)) refl
