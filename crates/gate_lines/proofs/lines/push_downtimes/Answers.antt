use Rattle.std.proofs.Common.{refl}
use Rattle.gate_lines.specs.Lines.{downtime_line}
use Rattle.gate_lines.proofs.LineSteps.{row-appended, rows-appended}
use Rattle.gate_lines.proofs.lines.push_downtimes.Goals as goal

pub loop-row-init : goal.loop-row-init
loop-row-init c = refl

pub loop-row-preserved : goal.loop-row-preserved
loop-row-preserved c =
    row-appended downtime_line c.args.rows.now c.loop-row.row-index c.row-item.result c.loop-row.out.items c.push_downtime.new.out.items _ c.loop-row-test.true
    c.row-item.is c.in_ok-push_downtime.ensures c.loop-row.invariant

pub returns : goal.returns
returns c = rows-appended downtime_line c.args.rows.now c.loop-row.row-index c.loop-row.out.items _ c.loop-row-test.false c.loop-row.invariant
