use Rattle.std.proofs.Common.{◌≤◌, ◌+◌, length}
use Rattle.gate_kept.specs.inner.Judged.{AddsLines}
use Rattle.gate_kept.proofs.text.take_lines.Given as goal

abbrev pub invariant-lines : goal.invariant-lines
invariant-lines l = record {
  adds : AddsLines l.bytes l.left l.lines.items l.number l.fn.faults.items l.faults.items;
  room : l.number + length l.left ≤ length l.bytes + 1;
}

abbrev pub decreases-lines : goal.decreases-lines
decreases-lines l = length l.left
