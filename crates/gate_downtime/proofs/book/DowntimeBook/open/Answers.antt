use Rattle.std.proofs.Common.{rules, ◌∙◌, ℕ, List, [], sym, subst, arith, length, ap, get_or, None, Option}
use Rattle.std.specs.Prelude.{count_by}
use Rattle.std.proofs.lemmas.List.{get_or-replicate, length-replicate}
use Rattle.gate_downtime.specs.inner.Rows.{is_unsettled}
use Rattle.gate_downtime.specs.declared.row.Row.{Row}
use Rattle.gate_downtime.specs.declared.links.Link.{Link}
use Rattle.gate_downtime.specs.inner.Tally.{IsSound}
use Rattle.gate_downtime.specs.inner.Live.{live_ids}
use Rattle.gate_downtime.specs.inner.Links.{Spreading}
use Rattle.gate_downtime.specs.inner.Walk.{AllFlexLinked}
use Rattle.gate_downtime.proofs.RowSteps.{spreading-none, waiting-none}
use Rattle.gate_downtime.proofs.book.DowntimeBook.open.Goals as goal

pub invariant_of-result : goal.invariant_of-result
invariant_of-result c =
    let P : List Row → Type 0 = λ rows. IsSound c.args.moment.0 rows c.in_ok-no_tally.field-0 in
    let Q : List Row → Type 0 = λ rows. Spreading c.args.first_id rows c.new-2.result.items [] in
    let R : List Link → Type 0 = λ links. Spreading c.args.first_id [] links [] in
    let S : List Row → Type 0 = λ rows. AllFlexLinked c.args.moment.0 rows c.new-2.result.items c.in_ok-no_heads.field-0.items in
    record {
      sound = subst P (sym c.new.ensures.items) (c.in_ok-no_tally.ensures.sound c.args.moment.0);
      spreading = subst Q (sym c.new.ensures.items) (subst R (sym c.new-2.ensures.items) (spreading-none c.args.first_id (search rules)));
      waiting = subst S (sym c.new.ensures.items) (waiting-none c.args.moment.0 c.new-2.result.items c.in_ok-no_heads.field-0.items (λ p lt. ap (λ xs. get_or xs p None) c.in_ok-no_heads.ensures.items ∙ get_or-replicate c.args.objects p None None (omega (arith, lt, ap length c.in_ok-no_heads.ensures.items, length-replicate {A = Option ℕ} c.args.objects None))));
      idle = c.new-3.ensures.items;
      objects = c.in_ok-no_heads.ensures.len ∙ sym c.in_ok-no_tally.ensures.objects;
      ids = omega (arith, ap length c.new.ensures.items, c.ranges.first_id.fits);
      small = omega arith;
      room_rows = search rules;
      room_links = search rules;
      room_deadlines = omega (arith, c.in_ok-no_tally.ensures.deadlines, ap (count_by is_unsettled) c.new.ensures.items);
      room_pending = search rules;
      room_marks = search rules;
      live_is = c.in_ok-no_tally.ensures.live ∙ sym (ap (live_ids c.args.first_id c.args.moment.0) c.new.ensures.items);
      live_idle = c.in_ok-no_tally.ensures.idle;
      room_live = omega arith;
      room_gone = search rules;
    }
