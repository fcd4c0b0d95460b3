use Rattle.std.proofs.Common.{◌≡◌, ◌++◌, drop}
use Rattle.status_export.specs.Gauges.{value_text}
use Rattle.status_export.proofs.gauges.push_value.Given as goal

abbrev pub invariant-loop-byte : goal.invariant-loop-byte
invariant-loop-byte l = l.out.items ++ value_text (drop l.byte-index l.byte-items) ≡ l.fn.out.items ++ value_text l.fn.value
