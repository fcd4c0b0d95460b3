use Rattle.gate_ports.proofs.Lines.{one_line_more, no_line_more}
use Rattle.gate_ports.proofs.cutting.first_lines.Goals as goal

pub returns-in-None-clause-counted : goal.returns-in-None-clause-counted
returns-in-None-clause-counted c =
    no_line_more c.args.bytes.now c.after.result.now c.loop-lines.count c.loop-lines.lines c.after.ensures c.loop-lines.invariant.counted c.in-None.ensures

pub loop-lines-preserved : goal.loop-lines-preserved
loop-lines-preserved c =
    let i = c.loop-lines.invariant in
    let found = c.in-Some.ensures in
    let more = one_line_more c.args.bytes.now c.after.result.now c.loop-lines.count c.in-Some.end c.loop-lines.lines c.after.ensures i.within i.counted
    found.0.high found.0.before found.1 in
    record { within = more.0; counted = more.1; ends = more.2 }
