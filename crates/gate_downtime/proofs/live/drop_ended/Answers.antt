use Rattle.std.proofs.Common.{◌∙◌, ap, arith, rules, sym}
use Rattle.std.specs.Prelude.{filter}
use Rattle.std.proofs.lemmas.Bool.{true≢false}
use Rattle.gate_downtime.specs.inner.Rows.{is_live_row}
use Rattle.gate_downtime.proofs.IdSteps.{filter-ascending, filter-others, others-in}
use Rattle.gate_downtime.proofs.NotedSteps.{noted-pop, noted-none}
use Rattle.gate_downtime.proofs.live.drop_ended.Goals as goal

pub ended-preserved-then-not-is_live_id : goal.ended-preserved-then-not-is_live_id
ended-preserved-then-not-is_live_id c = record {
  ascending = rw c.remove.ensures.items (filter-ascending _ _ c.ended.invariant.ascending);
  few = c.ended.invariant.few;
  noted =
      noted-pop _ c.ended.live (record { ids = c.remove.new.self; ended = c.pop.new.self; many = c.ended.live.many }) c.in-Some.id c.ended.invariant.few c.in-Some.ensures.items
      (λ other has off. others-in c.in-Some.id other c.ended.live.ids.items (rw c.remove.ensures.items at has))
      c.ended.invariant.noted;
  ids =
      ap (filter (is_live_row c.args.first c.args.rows.now c.args.now)) c.remove.ensures.items
      ∙ filter-others (is_live_row c.args.first c.args.rows.now c.args.now) c.in-Some.id c.ended.live.ids.items (sym c.is_live_id.ensures ∙ c.if-not-is_live_id.true)
      ∙ c.ended.invariant.ids;
  room = omega (arith, c.remove.ensures.room, c.ended.invariant.room);
}

pub ended-preserved : goal.ended-preserved
ended-preserved c = record {
  ascending = c.ended.invariant.ascending;
  few = c.ended.invariant.few;
  noted =
      noted-pop _ c.ended.live (record { ids = c.ended.live.ids; ended = c.pop.new.self; many = c.ended.live.many }) c.in-Some.id c.ended.invariant.few c.in-Some.ensures.items
      (λ other has off. (has, λ same. true≢false (sym c.if-not-is_live_id.false ∙ c.is_live_id.ensures ∙ ap (is_live_row c.args.first c.args.rows.now c.args.now) (sym same) ∙ off)))
      c.ended.invariant.noted;
  ids = c.ended.invariant.ids;
  room = c.ended.invariant.room;
}

pub returns : goal.returns
returns c = record {
  ids = noted-none _ c.ended.live c.ended.invariant.few (omega (arith, c.in_default.ensures.cases.0, c.ended.live.ended.ok.0)) c.ended.invariant.noted ∙ c.ended.invariant.ids;
  room = c.ended.invariant.room;
  idle = search rules;
}
