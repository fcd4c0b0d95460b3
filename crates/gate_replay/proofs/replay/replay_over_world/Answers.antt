use Rattle.gate_core.specs.Legal.{IsLegal}
use Rattle.gate_streams.specs.Fault.{fault_in}
use Rattle.gate_replay.proofs.ReplayTexts.{played_input}
use Rattle.gate_replay.proofs.replay.replay_over_world.Goals as goal

pub returns : goal.returns
returns g c =
    let state = g.W.Sink.state in
    played_input IsLegal (g.I.Read.remaining c.args.input.now) c.in_ok-text.text.items c.in_ok-script.script (fault_in c.play_over_world.result) (state c.args.output.now) (state c.play_over_world.new.output) c.in_ok-text.ensures.whole c.in_ok-text.ensures.short (rw c.deref.ensures.value at c.in_ok-script.ensures.script) c.play_over_world.ensures
