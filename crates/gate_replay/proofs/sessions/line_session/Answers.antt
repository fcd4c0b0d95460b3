use Rattle.std.proofs.Common.{◌++◌, ◌∷◌, [], Some, ap, ◌∙◌}
use Rattle.gate_replay.proofs.SessionSteps.{line_served}
use Rattle.gate_replay.proofs.sessions.line_session.Goals as goal

pub returns-clause-answered : goal.returns-clause-answered
returns-clause-answered g c = λ a only.
    line_served _ _ c.args.now (c.args.text.now ++ 10 ∷ []) c.args.operator.now c.serve_lines.new.operator _ _ _ _ _ c.serve_lines.result a
    (ap (λ bytes. Some bytes) (c.as_slice-reader.ensures.value ∙ c.in_ok-push.ensures.items ∙ ap (λ bytes. bytes ++ 10 ∷ []) (c.in_ok-extend_from_slice.ensures.items ∙ ap (λ bytes. bytes ++ c.args.text.now) c.in_ok-input.ensures.items)))
    c.serve_lines.ensures.session only
