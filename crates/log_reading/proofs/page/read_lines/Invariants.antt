use Rattle.std.proofs.Common.{◌≡◌, length}
use Rattle.log_reading.proofs.PageSteps.{IsSoFar}
use Rattle.log_reading.proofs.page.read_lines.Given as goal

abbrev pub invariant-loop-index : goal.invariant-loop-index
invariant-loop-index l = record {
  far : IsSoFar l.fn.text l.count l.log.items l.rest;
  counted : length l.log.items ≡ l.index;
}
