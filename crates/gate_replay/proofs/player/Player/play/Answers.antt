use Rattle.std.proofs.Common.{List, subst, arith, take_all}
use Rattle.gate_replay.specs.declared.script.Step.{Step}
use Rattle.gate_replay.specs.ReplayState.{IsWhole}
use Rattle.gate_replay.specs.inner.Playing.{solo_view, setting, Shows, PlayedTo}
use Rattle.gate_replay.proofs.PlaySteps.{ready, played_none, next_step, played_more, played_stops}
use Rattle.gate_replay.proofs.player.Player.play.Goals as goal

pub loop-step-init : goal.loop-step-init
loop-step-init g c =
    let state = g.W.Sink.state in
    λ setup new. played_none (solo_view g.D.SoloQueue.after g.D.SoloQueue.limits) setup c.args.self (state c.args.output.now) new

pub step-requires : goal.step-requires
step-requires g c =
    let state = g.W.Sink.state in
    ready (solo_view g.D.SoloQueue.after g.D.SoloQueue.limits) g.met.D.SoloQueue.allowed (setting c.requires.0 (state c.args.output.now)) c.loop-step.player (state c.loop-step.output) _ (c.loop-step.invariant c.requires.0 c.requires.1).ends

pub returns-in-Err-clause-stopped : goal.returns-in-Err-clause-stopped
returns-in-Err-clause-stopped g c =
    let state = g.W.Sink.state in
    played_stops (solo_view g.D.SoloQueue.after g.D.SoloQueue.limits) (solo_view g.D.Ended.EndedQueue.after g.D.Ended.EndedQueue.limits) c.in-Err.stop c.args.self (state c.args.output.now) c.args.steps.now c.loop-step.step-index c.step-item.result c.loop-step.player (state c.loop-step.output) (state c.step.new.output)
    (next_step c.args.steps.now c.loop-step.step-index c.step-item.result c.loop-step-test.true c.step-item.is) (c.loop-step.invariant c.requires.0 c.requires.1).ends.printed.none_failed c.loop-step.invariant c.in-Err.ensures.stopped

pub loop-step-preserved : goal.loop-step-preserved
loop-step-preserved g c =
    let state = g.W.Sink.state in
    λ setup new. played_more (solo_view g.D.SoloQueue.after g.D.SoloQueue.limits) (setting setup (state c.args.output.now)) _ _ c.loop-step.player c.in-Ok.next (state c.loop-step.output) (state c.step.new.output) c.step-item.result
    (next_step c.args.steps.now c.loop-step.step-index c.step-item.result c.loop-step-test.true c.step-item.is) (c.loop-step.invariant setup new) c.in-Ok.ensures.played

pub returns-clause-played : goal.returns-clause-played
returns-clause-played g c =
    let state = g.W.Sink.state in
    λ setup new. subst (λ (steps : List Step). PlayedTo IsWhole (Shows (solo_view g.D.SoloQueue.after g.D.SoloQueue.limits) (setting setup (state c.args.output.now)) c.loop-step.player (state c.loop-step.output)) setup steps)
    (take_all c.loop-step.step-index c.args.steps.now (omega (arith, c.loop-step-test.false))) (c.loop-step.invariant setup new)
