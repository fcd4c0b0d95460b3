use Rattle.std.proofs.Common.{sym, None}
use Rattle.gate_turns.specs.Standing.{others}
use Rattle.gate_turns.specs.Turns.{owes_longer}
use Rattle.gate_turns.specs.Pages.{is_parting}
use Rattle.gate_turns.proofs.FirstSteps.{step_none, step_not, step_is, after_all, place_none, place_first, place_within, owes_longer-order}
use Rattle.gate_turns.proofs.turns.longest_parting.Goals.{in-Some+then-is_parting, in-Some+else-is_parting, in_default}
use Rattle.gate_turns.proofs.turns.longest_parting.Goals as goal

pub loop-place-preserved : goal.loop-place-preserved
loop-place-preserved c =
    let peers = others c.args.peers.now None in
    elim c.match-other_at.branch [
      | in-Some+then-is_parting w ↦ rw (w.first-is, w.first_by_time-first.ensures)
          (step_is is_parting owes_longer owes_longer-order peers c.loop-place.place w.in-Some.peer c.loop-place.first
          w.in-Some.ensures (sym w.if-is_parting.ensures) c.loop-place.invariant)
      | in-Some+else-is_parting w ↦ rw w.first-is
          (step_not is_parting owes_longer peers c.loop-place.place w.in-Some.peer c.loop-place.first w.in-Some.ensures
          (sym w.if-is_parting.ensures) c.loop-place.invariant)
      | in_default w ↦ rw w.first-is
          (step_none is_parting owes_longer peers c.loop-place.place c.loop-place.first w.in_default.ensures c.loop-place.invariant)
    ]

pub returns : goal.returns
returns c =
    let kept = after_all is_parting owes_longer c.args.peers.now None c.loop-place.place c.loop-place.first
    c.loop-place-test.false c.loop-place.invariant in
    let peers = others c.args.peers.now None in
    rw c.place_of.ensures
    (record {
      none = place_none is_parting owes_longer peers c.loop-place.first kept;
      first = place_first is_parting owes_longer c.args.peers.now None c.loop-place.first kept;
      within = place_within is_parting owes_longer c.args.peers.now None c.loop-place.first kept;
    })
