use Rattle.gate_replay.specs.Allowed.{IsAllowed}
use Rattle.gate_streams.specs.Fault.{fault_in}
use Rattle.gate_replay.proofs.ReplayTexts.{played_input}
use Rattle.gate_replay.proofs.replay.replay_script.Goals as goal

pub returns : goal.returns
returns g c =
    let state = g.W.Sink.state in
    played_input IsAllowed (g.I.Read.remaining c.args.input.now) c.in_ok-text.text.items c.in_ok-script.script (fault_in c.play_over_gate.result) (state c.args.output.now) (state c.play_over_gate.new.output) c.in_ok-text.ensures.whole c.in_ok-text.ensures.short (rw c.deref.ensures.value at c.in_ok-script.ensures.script) c.play_over_gate.ensures
