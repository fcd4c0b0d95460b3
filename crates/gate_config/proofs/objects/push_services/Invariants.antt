use Rattle.std.proofs.Common.{◌≡◌, ◌++◌, take}
use Rattle.std.specs.List.{flat_map}
use Rattle.toml.specs.Data.{as_table}
use Rattle.toml.specs.View.{view}
use Rattle.gate_config.specs.Check.{AllPass}
use Rattle.gate_config.specs.Document.{service_checks, service_lines}
use Rattle.gate_config.proofs.objects.push_services.Given as goal

abbrev pub invariant-loop-row : goal.invariant-loop-row
invariant-loop-row l = record {
  lines : l.lines.items ≡ l.fn.lines.items ++ flat_map (λ row. service_lines l.host (as_table (view row))) (take l.row-index l.rows);
  passed : AllPass (flat_map (λ row. service_checks (as_table (view row))) (take l.row-index l.rows));
}
