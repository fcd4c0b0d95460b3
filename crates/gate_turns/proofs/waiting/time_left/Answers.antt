use Rattle.std.proofs.Common.{Some, None, ap, ◌∙◌}
use Rattle.std.proofs.lemmas.Option.{slice_get-get_or}
use Rattle.gate_turns.specs.Waiting.{times_left}
use Rattle.gate_turns.proofs.LeastSteps.{step_owing, step_owing_nothing, step_nobody, least_at_end, least_none, least_some, least_late}
use Rattle.gate_turns.proofs.waiting.time_left.Goals.{in-Some+in-Some-time_left_of, in-Some+in_default-time_left_of, in_default}
use Rattle.gate_turns.proofs.waiting.time_left.Goals as goal

pub loop-peer-preserved : goal.loop-peer-preserved
loop-peer-preserved c =
    let peers = c.args.peers.now in
    let place = c.loop-peer.peer-index in
    let at = slice_get-get_or peers place None c.loop-peer-test.true in
    elim c.match-peer.branch [
      | in-Some+in-Some-time_left_of w ↦ rw (w.least-is, w.min.ensures, w.unwrap_or.ensures)
          (step_owing c.args.now c.args.silence_millis c.args.is_ending peers place w.in-Some.standing w.in-Some-time_left_of.left
          c.loop-peer.least (at ∙ ap Some w.in-Some.is) w.in-Some-time_left_of.ensures c.loop-peer.invariant)
      | in-Some+in_default-time_left_of w ↦ rw w.least-is
          (step_owing_nothing c.args.now c.args.silence_millis c.args.is_ending peers place w.in-Some.standing c.loop-peer.least
          (at ∙ ap Some w.in-Some.is) w.in_default-time_left_of.ensures c.loop-peer.invariant)
      | in_default w ↦ rw w.least-is
          (step_nobody c.args.now c.args.silence_millis c.args.is_ending peers place c.loop-peer.least (at
          ∙ ap Some w.in_default.is)
          c.loop-peer.invariant)
    ]

pub returns : goal.returns
returns c =
    let times = times_left c.args.now c.args.silence_millis c.args.is_ending c.args.peers.now in
    let kept = least_at_end c.args.now c.args.silence_millis c.args.is_ending c.args.peers.now c.loop-peer.peer-index c.loop-peer.least
    c.loop-peer-test.false c.loop-peer.invariant in
    record {
      none = least_none times c.loop-peer.least kept;
      least = least_some times c.loop-peer.least kept;
      late = least_late c.args.now c.args.silence_millis c.args.is_ending c.args.peers.now c.loop-peer.least kept;
    }
