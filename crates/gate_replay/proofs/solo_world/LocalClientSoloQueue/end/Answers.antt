use Rattle.std.proofs.Common.{arith, ◌≡◌, ◌∷◌, sym, ap, ◌∙◌, subst}
use Rattle.gate_core.specs.declared.event.Event.TheVariants.{End, TakeIn}
use Rattle.gate_core.specs.declared.event.Reply.TheVariants.{Ended, Joined}
use Rattle.gate_core.specs.Limits.{Limits}
use Rattle.gate_core.specs.State.{WorldState, StandsAfter}
use Rattle.gate_replay.specs.laws.SoloWorlds.{open_at}
use Rattle.gate_replay.proofs.solo_world.LocalClientSoloQueue.end.Goals as goal

pub returns-clause-after : goal.returns-clause-after
returns-clause-after c = λ run h.
    let world : WorldState = c.into_world-world.result in
    let mid : WorldState = c.end_client.new.world in
    let two : world.limits.clients ≡ 2 = ap (λ (w : WorldState). w.limits.clients) c.into_world-world.ensures ∙ h.two_clients in
    let still_two : mid.limits.clients ≡ 2 = ap (λ (l : Limits). l.clients) c.end_client.ensures.limits ∙ two in
    let first : StandsAfter mid ((TakeIn 1, Joined) ∷ (End 1, Ended) ∷ run) =
    c.end_client.ensures.ended run (subst (λ (w : WorldState). StandsAfter w run) (sym c.into_world-world.ensures) h.stands) (open_at world.limits 1 run two (omega arith, omega arith) (h.nobody_ended 1)) in
    c.end_client-2.ensures.ended ((TakeIn 1, Joined) ∷ (End 1, Ended) ∷ run) first (open_at mid.limits 2 ((TakeIn 1, Joined) ∷ (End 1, Ended) ∷ run) still_two (omega arith, omega arith) (h.nobody_ended 2))
