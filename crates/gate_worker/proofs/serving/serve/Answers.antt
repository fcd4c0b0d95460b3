use Rattle.std.proofs.Common.{◌≡◌, List, Option, sym, ◌∙◌, subst}
use Rattle.std.specs.Prelude.{is_some, IfSome}
use Rattle.gate_queue.specs.Knowledge.{CloseKnowledge}
use Rattle.gate_reader.specs.Session.{Handled}
use Rattle.gate_worker.specs.Work.{served_piece, IsServed}
use Rattle.gate_worker.proofs.Sessions.{agent_served, operator_served}
use Rattle.gate_worker.proofs.Working.{joined}
use Rattle.gate_worker.proofs.serving.serve.Goals as goal

pub returns-in-None-clause-served : goal.returns-in-None-clause-served
returns-in-None-clause-served g c =
    subst (λ (o : Option CloseKnowledge). (items : List Handled) × IsServed (is_some o) c.args.session c.args.serving.now.limits.greatest_age (g.K.Watch.shows c.args.serving.now.clock.now) c.args.client
    (served_piece c.args.piece.now.place c.args.piece.now.is_first (g.I.Source.state c.args.piece.now.input).left items c.serve_packets-report.result.0 c.serve_packets-report.result.1) c.into_parts.result) (sym c.in-None.is)
    (agent_served c.args.session c.args.serving.now.limits.greatest_age (g.K.Watch.shows c.args.serving.now.clock.now) _ c.args.piece.now.place c.args.piece.now.is_first c.args.client _ _ _ _ _ _ _ _ _ (c.new-agent.ensures ∙ c.new-lone.ensures)
    (c.into_parts.ensures ∙ c.into_client-waited.ensures) c.requires.open c.serve_packets-report.ensures.keeps c.serve_packets-report.ensures.piece)

pub returns-in-Some-clause-served : goal.returns-in-Some-clause-served
returns-in-Some-clause-served g c =
    let knows = subst (λ (o : Option CloseKnowledge). IfSome o (λ k. (k.cell ≡ c.args.serving.now.gate.now.cell) × (k.known_close ≡ c.args.client.known_close)))
    c.in-Some.is c.requires.closer in
    subst (λ (o : Option CloseKnowledge). (items : List Handled) × IsServed (is_some o) c.args.session c.args.serving.now.limits.greatest_age (g.K.Watch.shows c.args.serving.now.clock.now) c.args.client
    (served_piece c.args.piece.now.place c.args.piece.now.is_first (g.I.Source.state c.args.piece.now.input).left items c.serve_line_piece-report.result.0 c.serve_line_piece-report.result.1) c.into_parts-client.result.0) (sym c.in-Some.is)
    (operator_served c.args.session c.args.serving.now.limits.greatest_age (g.K.Watch.shows c.args.serving.now.clock.now) _ c.args.piece.now.place c.args.piece.now.is_first c.args.client _ _ _ _ _ _ _ _ _
    (c.new-operator.ensures ∙ joined c.args.client c.new-joined.result c.in-Some.closer knows.1 c.requires.open c.new-joined.ensures)
    (c.into_parts-client.ensures.client ∙ c.into_client.ensures) c.requires.open c.serve_line_piece-report.ensures.keeps c.serve_line_piece-report.ensures.piece)
