use Rattle.std.proofs.Common.{◌≡◌, ◌++◌, drop, map}
use Rattle.operator_checks.specs.Findings.{label_byte}
use Rattle.operator_checks.proofs.drawing.push_label.Given as goal

abbrev pub invariant-loop-byte : goal.invariant-loop-byte
invariant-loop-byte l = l.out.items ++ map label_byte (drop l.byte-index l.name) ≡ l.fn.out.items ++ map label_byte l.fn.name
