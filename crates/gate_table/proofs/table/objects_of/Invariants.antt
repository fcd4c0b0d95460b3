use Rattle.std.proofs.Common.{take}
use Rattle.gate_table.specs.inner.TableBuilder.{TracksLines}
use Rattle.gate_table.proofs.Faults.{FaultlessBelow}
use Rattle.gate_table.proofs.table.objects_of.Given as goal

abbrev pub invariant-loop-i : goal.invariant-loop-i
invariant-loop-i l = TracksLines (take l.i l.lines) l.builder × FaultlessBelow l.lines l.i
