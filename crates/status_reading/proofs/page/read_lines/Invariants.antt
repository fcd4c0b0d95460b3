use Rattle.std.proofs.Common.{length}
use Rattle.status_reading.specs.Rows.{page_view}
use Rattle.status_reading.proofs.PageSteps.{IsSoFar}
use Rattle.status_reading.proofs.page.read_lines.Given as goal

abbrev pub invariant-loop-rest : goal.invariant-loop-rest
invariant-loop-rest l = IsSoFar l.fn.text (page_view l.page) l.rest l.number

abbrev pub decreases-loop-rest : goal.decreases-loop-rest
decreases-loop-rest l = length l.rest
