use Rattle.std.proofs.Common.{subst}
use Rattle.std.specs.Prelude.{◌++◌}
use Rattle.gate_core.specs.LocalClient.{submitted}
use Rattle.gate_reader.specs.Lines.{operator_view}
use Rattle.gate_replay.specs.inner.Playing.{solo_view}
use Rattle.gate_replay.proofs.SoloSteps.{line_step}
use Rattle.gate_replay.proofs.sessions.serve_line.Goals as goal

pub returns : goal.returns
returns g c = record {
  answered = λ a only.
      let old = c.turn_to-client.result in
      let new = c.line_session.new.operator in
      line_step (solo_view g.D.SoloQueue.after g.D.SoloQueue.limits) (operator_view g.D.Submit g.D.Operator (g.D.Submit.named old)) c.args.queue old new c.args.text.now c.args.now a
      c.turn_to-client.ensures.after c.turn_to-client.ensures.limits
      (λ body r run h shown. subst (λ n. g.D.SoloQueue.after new (submitted n body r ++ run)) c.turn_to-client.ensures.named (g.met.D.SoloQueue.after_submit old new body r run h shown))
      (λ moment r run h shown. g.met.D.SoloQueue.after_close old new moment r run h shown)
      (g.met.D.SoloQueue.same_limits old new c.in_ok-report.ensures.keeps)
      (rw c.bytes.ensures at c.in_ok-report.ensures.answered a only);
}
