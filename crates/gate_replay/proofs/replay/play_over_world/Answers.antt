use Rattle.std.proofs.Common.{rules, ◌≡◌, [], true, refl, ap, ◌∙◌, subst, arith}
use Rattle.std.specs.Prelude.{is_ok}
use Rattle.gate_core.specs.Limits.{Limits}
use Rattle.gate_core.specs.Legal.{Run, IsLegal}
use Rattle.gate_core.specs.State.{WorldState, StandsAfter}
use Rattle.gate_core.specs.LocalClient.{LocalState}
use Rattle.gate_replay.specs.SoloWorld.{IsAfter}
use Rattle.gate_replay.specs.laws.SoloWorlds.{open_at}
use Rattle.gate_streams.specs.Fault.{fault_in}
use Rattle.gate_replay.specs.inner.Playing.{solo_view, IsShown}
use Rattle.gate_replay.proofs.ReplayEnds.{ends_too}
use Rattle.gate_replay.proofs.replay.play_over_world.Goals as goal

-- what a World shows is legal
shown_legal : (limits : Limits) (run : Run) → IsShown (solo_view StandsAfter (λ (world : WorldState). world.limits)) limits run → IsLegal limits run
shown_legal limits run h = subst (λ (l : Limits). IsLegal l run) h.limits_are h.after.legal

shown_so_far : (limits : Limits) (run : Run) → IsShown (solo_view IsAfter (λ (client : LocalState). client.world.limits)) limits run → IsLegal limits run
shown_so_far limits run h = subst (λ (l : Limits). IsLegal l run) h.limits_are h.after.stands.legal

pub returns : goal.returns
returns g c =
    let state = g.W.Sink.state in
    ends_too (IsShown (solo_view StandsAfter (λ (world : WorldState). world.limits))) (IsShown (solo_view IsAfter (λ (client : LocalState). client.world.limits))) IsLegal c.args.script (state c.args.output.now) (state c.play_over.new.output) (fault_in c.play_over.result) shown_legal shown_so_far c.play_over.ensures

pub unwrap-queue-requires : goal.unwrap-queue-requires
unwrap-queue-requires g c =
    let ok : is_ok c.new.result ≡ true = c.new.ensures.open [] c.in-Ok.ensures.new
    ∙ open_at c.in-Ok.world.limits 1 [] (ap (λ (l : Limits). l.clients) c.in-Ok.ensures.limits) (omega arith, omega arith) refl in
    search rules
