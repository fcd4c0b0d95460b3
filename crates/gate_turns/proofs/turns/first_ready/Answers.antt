use Rattle.std.proofs.Common.{sym}
use Rattle.gate_turns.specs.Standing.{others, can_be_served}
use Rattle.gate_turns.specs.Turns.{was_ready_before}
use Rattle.gate_turns.proofs.FirstSteps.{step_none, step_not, step_is, after_all, place_none, place_first, place_within, was_ready_before-order}
use Rattle.gate_turns.proofs.turns.first_ready.Goals.{in-Some+then-can_be_served, in-Some+else-can_be_served, in_default}
use Rattle.gate_turns.proofs.turns.first_ready.Goals as goal

pub loop-place-preserved : goal.loop-place-preserved
loop-place-preserved c =
    let peers = others c.args.peers.now c.args.except in
    elim c.match-other_at.branch [
      | in-Some+then-can_be_served w ↦ rw (w.first-is, w.first_by_order-first.ensures)
          (step_is can_be_served was_ready_before was_ready_before-order peers c.loop-place.place w.in-Some.peer c.loop-place.first
          w.in-Some.ensures (sym w.if-can_be_served.ensures) c.loop-place.invariant)
      | in-Some+else-can_be_served w ↦ rw w.first-is
          (step_not can_be_served was_ready_before peers c.loop-place.place w.in-Some.peer c.loop-place.first w.in-Some.ensures
          (sym w.if-can_be_served.ensures) c.loop-place.invariant)
      | in_default w ↦ rw w.first-is
          (step_none can_be_served was_ready_before peers c.loop-place.place c.loop-place.first w.in_default.ensures c.loop-place.invariant)
    ]

pub returns : goal.returns
returns c =
    let kept = after_all can_be_served was_ready_before c.args.peers.now c.args.except c.loop-place.place c.loop-place.first
    c.loop-place-test.false c.loop-place.invariant in
    let peers = others c.args.peers.now c.args.except in
    rw c.place_of.ensures
    (record {
      none = place_none can_be_served was_ready_before peers c.loop-place.first kept;
      first = place_first can_be_served was_ready_before c.args.peers.now c.args.except c.loop-place.first kept;
      within = place_within can_be_served was_ready_before c.args.peers.now c.args.except c.loop-place.first kept;
    })
