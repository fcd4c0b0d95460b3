use Rattle.std.proofs.Common.{subst}
use Rattle.gate_core.specs.Limits.{Limits}
use Rattle.gate_core.specs.Legal.{Run}
use Rattle.gate_replay.specs.Allowed.{IsAllowed}
use Rattle.gate_replay.specs.Ending.{IsGateAfter}
use Rattle.gate_replay.specs.SoloGate.{SoloState, IsAfter}
use Rattle.gate_queue.specs.Taker.{TakerState}
use Rattle.gate_streams.specs.Fault.{fault_in}
use Rattle.gate_replay.specs.inner.Playing.{solo_view, IsShown}
use Rattle.gate_replay.proofs.ReplayEnds.{ends_too}
use Rattle.gate_replay.proofs.replay.play_over_gate.Goals as goal

-- what is left of a gate's queue shows what is allowed
shown_allowed : (limits : Limits) (run : Run) → IsShown (solo_view IsGateAfter (λ (taker : TakerState). taker.gate.limits)) limits run → IsAllowed limits run
shown_allowed limits run h = subst (λ (l : Limits). IsAllowed l run) h.limits_are h.after.allowed

shown_so_far : (limits : Limits) (run : Run) → IsShown (solo_view IsAfter (λ (queue : SoloState). queue.client.gate.limits)) limits run → IsAllowed limits run
shown_so_far limits run h = subst (λ (l : Limits). IsAllowed l run) h.limits_are h.after.allowed

pub returns : goal.returns
returns g c =
    let state = g.W.Sink.state in
    ends_too (IsShown (solo_view IsGateAfter (λ (taker : TakerState). taker.gate.limits))) (IsShown (solo_view IsAfter (λ (queue : SoloState). queue.client.gate.limits))) IsAllowed c.args.script (state c.args.output.now) (state c.play_over.new.output) (fault_in c.play_over.result) shown_allowed shown_so_far c.play_over.ensures
