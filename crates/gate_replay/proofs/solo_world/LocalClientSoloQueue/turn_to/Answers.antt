use Rattle.std.proofs.Common.{rules, ◌≡◌, true, sym, ap, ◌∙◌, subst}
use Rattle.std.specs.Prelude.{is_ok}
use Rattle.gate_core.specs.State.{WorldState, StandsAfter}
use Rattle.gate_replay.specs.laws.SoloWorlds.{open_at}
use Rattle.gate_replay.proofs.solo_world.LocalClientSoloQueue.turn_to.Goals as goal

pub unwrap-requires : goal.unwrap-requires
unwrap-requires c =
    let run = c.requires.begun.0 in
    let h = c.requires.begun.1 in
    let ok : is_ok c.new.result ≡ true = c.new.ensures.open run (subst (λ (w : WorldState). StandsAfter w run) (sym c.into_world-world.ensures) h.stands)
    ∙ open_at c.into_world-world.result.limits c.args.number run (ap (λ (w : WorldState). w.limits.clients) c.into_world-world.ensures ∙ h.two_clients) c.requires.client (h.nobody_ended c.args.number) in
    search rules
