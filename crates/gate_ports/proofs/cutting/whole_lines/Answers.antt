use Rattle.std.proofs.Common.{inr, take}
use Rattle.gate_ports.proofs.Lines.{no_end, no_end_after, up_to}
use Rattle.gate_ports.proofs.cutting.whole_lines.Goals as goal

pub returns-in-None-clause-begun : goal.returns-in-None-clause-begun
returns-in-None-clause-begun c = no_end c.args.bytes.now c.in-None.ensures

pub returns-in-Some-clause-lines : goal.returns-in-Some-clause-lines
returns-in-Some-clause-lines c =
    let found = c.in-Some.ensures in
    inr (take c.in-Some.last c.args.bytes.now, up_to c.args.bytes.now c.in-Some.last found.0.high found.1)

pub returns-in-Some-clause-begun : goal.returns-in-Some-clause-begun
returns-in-Some-clause-begun c = no_end_after c.args.bytes.now c.in-Some.last c.in-Some.ensures.0.after
