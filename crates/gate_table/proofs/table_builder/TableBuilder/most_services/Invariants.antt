use Rattle.std.proofs.Common.{◌≡◌, map, drop, max}
use Rattle.std.specs.Prelude.{count_by}
use Rattle.gate_model.specs.declared.object.ObjectLine.{ObjectLine}
use Rattle.gate_model.specs.Table.{is_service_line_of, greatest, most_services}
use Rattle.gate_table.proofs.table_builder.TableBuilder.most_services.Given as goal

abbrev pub invariant-loop-line : goal.invariant-loop-line
invariant-loop-line l =
    max l.most (greatest (map (λ (line : ObjectLine). count_by (is_service_line_of line.host) l.lines) (drop l.line-index l.lines)))
    ≡ most_services l.lines
