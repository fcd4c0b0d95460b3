use Rattle.std.proofs.Common.{◌≡◌, take}
use Rattle.std.specs.List.{flat_map}
use Rattle.toml.specs.Data.{as_table}
use Rattle.toml.specs.View.{view}
use Rattle.gate_config.specs.Check.{AllPass}
use Rattle.gate_config.specs.Document.{host_checks, host_lines}
use Rattle.gate_config.proofs.objects.read_hosts.Given as goal

abbrev pub invariant-loop-row : goal.invariant-loop-row
invariant-loop-row l = record {
  lines : l.lines.items ≡ flat_map (λ row. host_lines (as_table (view row))) (take l.row-index l.rows);
  passed : AllPass (flat_map (λ row. host_checks (as_table (view row))) (take l.row-index l.rows));
}
