use Rattle.std.proofs.Common.{◌≡◌, true, false}
use Rattle.gate_turns.specs.Standing.{others}
use Rattle.gate_turns.specs.Turns.{owes, owes_longer}
use Rattle.gate_turns.proofs.FirstSteps.{step_none, step_not, step_is, after_all, place_none, place_first, place_within, owes_longer-order}
use Rattle.gate_turns.proofs.turns.longest_owing.Goals.{in-Some+then-is_some, in-Some+else-is_some, in_default}
use Rattle.gate_turns.proofs.turns.longest_owing.Goals as goal

pub loop-place-preserved : goal.loop-place-preserved
loop-place-preserved c =
    let kind = owes c.args.silence_millis c.args.is_ending in
    let peers = others c.args.peers.now c.args.except in
    elim c.match-other_at.branch [
      | in-Some+then-is_some w ↦
          let owing : owes c.args.silence_millis c.args.is_ending w.in-Some.peer ≡ true = cc
          (w.if-is_some.ensures, w.limit_of.ensures) in
          rw (w.first-is, w.first_by_time-first.ensures)
          (step_is kind owes_longer owes_longer-order peers c.loop-place.place w.in-Some.peer c.loop-place.first
          w.in-Some.ensures owing c.loop-place.invariant)
      | in-Some+else-is_some w ↦
          let owing : owes c.args.silence_millis c.args.is_ending w.in-Some.peer ≡ false = cc
          (w.if-is_some.ensures, w.limit_of.ensures) in
          rw w.first-is
          (step_not kind owes_longer peers c.loop-place.place w.in-Some.peer c.loop-place.first w.in-Some.ensures owing
          c.loop-place.invariant)
      | in_default w ↦ rw w.first-is
          (step_none kind owes_longer peers c.loop-place.place c.loop-place.first w.in_default.ensures c.loop-place.invariant)
    ]

pub returns : goal.returns
returns c =
    let kind = owes c.args.silence_millis c.args.is_ending in
    let peers = others c.args.peers.now c.args.except in
    let kept = after_all kind owes_longer c.args.peers.now c.args.except c.loop-place.place c.loop-place.first c.loop-place-test.false
    c.loop-place.invariant in
    rw c.place_of.ensures
    (record {
      none = place_none kind owes_longer peers c.loop-place.first kept;
      first = place_first kind owes_longer c.args.peers.now c.args.except c.loop-place.first kept;
      within = place_within kind owes_longer c.args.peers.now c.args.except c.loop-place.first kept;
    })
