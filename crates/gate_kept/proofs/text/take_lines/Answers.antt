use Rattle.std.proofs.Common.{◌∷◌, ap, length, length-append, arith}
use Rattle.gate_kept.proofs.PartSteps.{line_step}
use Rattle.gate_kept.proofs.text.take_lines.Goals as goal

pub lines-preserved : goal.lines-preserved
lines-preserved c =
    let i = c.lines.invariant in
    let split = c.in-Some.ensures in
    record {
      adds = line_step c.args.bytes.now c.lines.left.now c.in-Some.line.now c.in-Some.more.now c.lines.lines.items c.take_line.new.lines.items
          c.lines.number c.args.faults.now.items c.lines.faults.items c.take_line.new.faults.items i.adds split.0 split.1 c.in_ok-take_line.ensures;
      room = omega (arith, i.room, ap length split.0, length-append c.in-Some.line.now (10 ∷ c.in-Some.more.now));
    }
