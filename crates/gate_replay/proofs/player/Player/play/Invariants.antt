use Rattle.std.proofs.Common.{take}
use Rattle.gate_replay.specs.declared.setup.Setup.{Setup}
use Rattle.gate_replay.specs.ReplayState.{IsWhole}
use Rattle.gate_replay.specs.inner.Playing.{solo_view, setting, Shows, IsNew, PlayedTo}
use Rattle.gate_replay.proofs.player.Player.play.Given as goal

abbrev pub invariant-loop-step : goal.invariant-loop-step
invariant-loop-step g l =
    let state = g.W.Sink.state in
    let view = solo_view g.D.SoloQueue.after g.D.SoloQueue.limits in
    (setup : Setup) → IsNew view setup l.fn.self → PlayedTo IsWhole (Shows view (setting setup (state l.fn.output)) l.player (state l.output)) setup (take l.step-index l.steps)
