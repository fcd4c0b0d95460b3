use Rattle.std.proofs.Common.{◌≡◌, ◌++◌, drop}
use Rattle.std.specs.List.{flat_map}
use Rattle.gate_start.specs.Kept.{fault_line}
use Rattle.gate_start.proofs.keeping.fault_lines.Given as goal

abbrev pub invariant-loop-fault : goal.invariant-loop-fault
invariant-loop-fault l = l.lines.items ++ flat_map fault_line (drop l.fault-index l.faults) ≡ flat_map fault_line l.faults
