use Rattle.std.proofs.Common.{◌≡◌, take, sym, ap, ◌∙◌, arith}
use Rattle.std.proofs.lemmas.List.{take_all}
use Rattle.status_merge.specs.Objects.{merged}
use Rattle.status_merge.proofs.MergeLaws.{is_picked}
use Rattle.status_merge.proofs.NameSteps.{known_place, turn}
use Rattle.status_merge.proofs.merging.latest_rows.Goals as goal

pub take_in-requires : goal.take_in-requires
take_in-requires c =
    known_place c.args.rows.now c.loop-row.row-index _ c.loop-row.names.keys c.loop-row.shown.items c.in_ok-place.place
    c.in_ok-place.is_new c.loop-row.invariant c.in_ok-place.ensures.place c.in_ok-place.ensures.new

pub loop-row-preserved : goal.loop-row-preserved
loop-row-preserved c =
    turn c.args.rows.now c.loop-row.row-index _ c.loop-row.names.keys c.loop-row.shown.items c.in_ok-place.place
    c.in_ok-place.is_new c.loop-row.invariant c.in_ok-place.ensures.place c.in_ok-place.ensures.new c.loop-row-test.true _
    c.in_ok-place.ensures.names _ c.in_ok-take_in.ensures

pub returns : goal.returns
returns c =
    let rows = c.args.rows.now in
    let whole : take c.loop-row.row-index rows ≡ rows = take_all c.loop-row.row-index rows (omega (arith, c.loop-row-test.false)) in
    c.loop-row.invariant.shown ∙ sym (is_picked (take c.loop-row.row-index rows)) ∙ ap merged whole
