use Rattle.std.proofs.Common.{sym, None}
use Rattle.gate_turns.specs.Standing.{others}
use Rattle.gate_turns.specs.Pages.{is_slow, is_behind}
use Rattle.gate_turns.proofs.FirstSteps.{step_none, step_not, step_is, after_all, place_none, place_first, place_within, is_behind-order}
use Rattle.gate_turns.proofs.turns.slowest.Goals.{in-Some+then-is_slow, in-Some+else-is_slow, in_default}
use Rattle.gate_turns.proofs.turns.slowest.Goals as goal

pub loop-place-preserved : goal.loop-place-preserved
loop-place-preserved c =
    let peers = others c.args.peers.now None in
    elim c.match-other_at.branch [
      | in-Some+then-is_slow w ↦ rw (w.first-is, w.first_by_pace-first.ensures)
          (step_is (is_slow c.args.now) is_behind is_behind-order peers c.loop-place.place w.in-Some.peer c.loop-place.first
          w.in-Some.ensures (sym w.if-is_slow.ensures) c.loop-place.invariant)
      | in-Some+else-is_slow w ↦ rw w.first-is
          (step_not (is_slow c.args.now) is_behind peers c.loop-place.place w.in-Some.peer c.loop-place.first w.in-Some.ensures
          (sym w.if-is_slow.ensures) c.loop-place.invariant)
      | in_default w ↦ rw w.first-is
          (step_none (is_slow c.args.now) is_behind peers c.loop-place.place c.loop-place.first w.in_default.ensures c.loop-place.invariant)
    ]

pub returns : goal.returns
returns c =
    let kept = after_all (is_slow c.args.now) is_behind c.args.peers.now None c.loop-place.place c.loop-place.first
    c.loop-place-test.false c.loop-place.invariant in
    let peers = others c.args.peers.now None in
    rw c.place_of.ensures
    (record {
      none = place_none (is_slow c.args.now) is_behind peers c.loop-place.first kept;
      first = place_first (is_slow c.args.now) is_behind c.args.peers.now None c.loop-place.first kept;
      within = place_within (is_slow c.args.now) is_behind c.args.peers.now None c.loop-place.first kept;
    })
