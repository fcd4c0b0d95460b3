use Rattle.std.proofs.Common.{◌≡◌, ◌≤◌, length, take}
use Rattle.gate_ports.specs.Held.{AreLines, line_ends}
use Rattle.gate_ports.proofs.cutting.first_lines.Given as goal

abbrev pub invariant-loop-lines : goal.invariant-loop-lines
invariant-loop-lines l = record {
  within : l.count ≤ length l.bytes;
  counted : l.lines ≡ line_ends (take l.count l.bytes);
  ends : AreLines (take l.count l.bytes);
}
