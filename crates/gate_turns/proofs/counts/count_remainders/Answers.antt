use Rattle.std.proofs.Common.{length, Some, None, ap, ◌∙◌, arith}
use Rattle.std.proofs.lemmas.Option.{slice_get-get_or}
use Rattle.gate_turns.proofs.CountSteps.{counts_none, counts_more}
use Rattle.gate_turns.proofs.counts.count_remainders.Goals.{in-Some, in_default}
use Rattle.gate_turns.proofs.counts.count_remainders.Goals as goal

pub loop-peer-preserved : goal.loop-peer-preserved
loop-peer-preserved c =
    let peers = c.args.peers.now in
    let place = c.loop-peer.peer-index in
    let at = slice_get-get_or peers place None c.loop-peer-test.true in
    elim c.match-peer.branch [
      | in-Some w ↦ rw w.counts-is
          (counts_more peers place w.in-Some.standing c.loop-peer.counts
          (length c.args.counts.now) w.remainder_of-remainder.result w.saturating_add.result
          (at ∙ ap Some w.in-Some.is) (omega arith) w.remainder_of-remainder.ensures
          (omega arith) w.saturating_add.ensures c.loop-peer.invariant)
      | in_default w ↦ rw w.counts-is (counts_none peers place c.loop-peer.counts (at
          ∙ ap Some w.in_default.is) c.loop-peer.invariant)
    ]
