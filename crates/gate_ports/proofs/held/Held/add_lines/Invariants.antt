use Rattle.std.proofs.Common.{◌≡◌, length, take}
use Rattle.gate_ports.specs.Held.{held_with, AreWholeLines}
use Rattle.gate_ports.proofs.held.Held.add_lines.Given as goal

abbrev pub invariant-loop-rest : goal.invariant-loop-rest
invariant-loop-rest l = record {
  role : l.self.role ≡ l.fn.self.role;
  kept : held_with l.self.whole l.self.bytes.items l.rest ≡ held_with l.fn.self.whole l.fn.self.bytes.items l.fn.piece;
  ends : AreWholeLines (take l.fn.self.whole l.fn.self.bytes.items) (take l.self.whole l.self.bytes.items);
  lines : l.self.lines ≡ l.fn.self.lines;
}

abbrev pub decreases-loop-rest : goal.decreases-loop-rest
decreases-loop-rest l = length l.rest
