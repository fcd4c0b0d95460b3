use Rattle.std.proofs.Common.{rules, ◌≡◌, ◌∷◌, true, sym, ap, ◌∙◌, subst}
use Rattle.std.specs.Prelude.{is_ok}
use Rattle.gate_core.specs.declared.event.Event.TheVariants.{Take}
use Rattle.gate_core.specs.Limits.{Limits}
use Rattle.gate_core.specs.Merge.{IsClient}
use Rattle.gate_core.specs.Legal.{take_reply}
use Rattle.gate_core.specs.State.{WorldState, StandsAfter}
use Rattle.gate_replay.specs.laws.SoloWorlds.{open_at}
use Rattle.gate_replay.proofs.solo_world.LocalClientSoloQueue.take.Goals as goal

pub unwrap-requires : goal.unwrap-requires
unwrap-requires c =
    let run = c.requires.0 in
    let h = c.requires.1 in
    let ok : is_ok c.new.result ≡ true = c.new.ensures.open ((Take, take_reply c.take-item.result) ∷ run)
    (c.take-item.ensures.stands run (subst (λ (w : WorldState). StandsAfter w run) (sym c.into_world-world.ensures) h.stands))
    ∙ open_at c.take-item.new.self.limits c.number-number.result ((Take, take_reply c.take-item.result) ∷ run)
    (ap (λ (l : Limits). l.clients) c.take-item.ensures.limits ∙ ap (λ (w : WorldState). w.limits.clients) c.into_world-world.ensures ∙ h.two_clients)
    (subst (λ n. IsClient 2 n) (sym c.number-number.ensures) h.number_is) (h.nobody_ended c.number-number.result) in
    search rules
