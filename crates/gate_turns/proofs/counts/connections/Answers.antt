use Rattle.std.proofs.Common.{Some, None, ap, arith, ◌∙◌}
use Rattle.std.proofs.lemmas.Option.{slice_get-get_or}
use Rattle.gate_turns.proofs.CountSteps.{connections-yes, connections-no, connections-none}
use Rattle.gate_turns.proofs.counts.connections.Goals.{in-Some+then-standing-address, in-Some+else-standing-address, in_default}
use Rattle.gate_turns.proofs.counts.connections.Goals as goal

pub loop-peer-preserved : goal.loop-peer-preserved
loop-peer-preserved c =
    let peers = c.args.peers.now in
    let place = c.loop-peer.peer-index in
    let at = slice_get-get_or peers place None c.loop-peer-test.true in
    elim c.match-peer.branch [
      | in-Some+then-standing-address w ↦
          let step = connections-yes peers place c.args.address w.in-Some.standing (at
          ∙ ap Some w.in-Some.is) w.if-standing-address.true in
          rw w.count-is (omega (arith, step), omega arith)
      | in-Some+else-standing-address w ↦
          let step = connections-no peers place c.args.address w.in-Some.standing (at
          ∙ ap Some w.in-Some.is) w.if-standing-address.false in
          rw w.count-is (omega (arith, step), omega arith)
      | in_default w ↦
          let step = connections-none peers place c.args.address (at ∙ ap Some w.in_default.is) in
          rw w.count-is (omega (arith, step), omega arith)
    ]
