use Rattle.std.proofs.Common.{ap, ◌∙◌}
use Rattle.std.specs.Prelude.{count_by}
use Rattle.gate_model.specs.declared.object.ObjectLine.{ObjectLine}
use Rattle.gate_model.specs.Table.{is_service_line_of, most_services}
use Rattle.gate_table.proofs.ServiceSteps.{most-next}
use Rattle.gate_table.proofs.table_builder.TableBuilder.most_services.Goals as goal

pub loop-line-preserved : goal.loop-line-preserved
loop-line-preserved c =
    let lines = c.args.lines.now in
    rw c.greater-most.ensures
    (most-next (λ (line : ObjectLine). count_by (is_service_line_of line.host) lines) lines c.loop-line.line-index c.loop-line.most c.services_of.result (most_services lines) c.line-item.result c.loop-line-test.true c.line-item.is
    (c.services_of.ensures ∙ ap (λ host. count_by (is_service_line_of host) lines) c.bytes.ensures) c.loop-line.invariant)
