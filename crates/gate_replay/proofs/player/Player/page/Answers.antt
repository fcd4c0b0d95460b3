use Rattle.std.proofs.Common.{◌∙◌, subst}
use Rattle.gate_streams.specs.Sink.{Writes}
use Rattle.gate_replay.specs.inner.Playing.{solo_view}
use Rattle.gate_replay.proofs.PlaySteps.{plays_page}
use Rattle.gate_replay.proofs.player.Player.page.Goals as goal

pub returns-in-Ok-print-clause-played : goal.returns-in-Ok-print-clause-played
returns-in-Ok-print-clause-played g c =
    let state = g.W.Sink.state in
    plays_page (solo_view g.D.SoloQueue.after g.D.SoloQueue.limits) c.args.self c.advance.new.self (state c.args.output.now) (state c.print.new.output) c.advance.ensures.shown c.advance.ensures.moment
    (subst (λ bytes. Writes (state c.args.output.now) (state c.print.new.output) bytes) (c.deref.ensures.value ∙ c.in-Ok.ensures) c.in-Ok-print.ensures.ok)
