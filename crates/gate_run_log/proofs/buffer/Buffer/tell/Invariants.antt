use Rattle.std.proofs.Common.{◌≡◌, ◌≤◌, ◌++◌, length, max}
use Rattle.gate_run_log.specs.RunLog.{lines_left}
use Rattle.gate_run_log.proofs.buffer.Buffer.tell.Given as goal

abbrev pub invariant-loop : goal.invariant-loop
invariant-loop l = record {
  lines : l.self.text.items ++ lines_left l.fn.self.kept l.self.told l.records l.outcomes
      ≡ l.fn.self.text.items ++ lines_left l.fn.self.kept l.fn.self.told l.records l.outcomes;
  kept : l.self.kept ≡ l.fn.self.kept;
  forward : l.fn.self.told ≤ l.self.told;
  within : l.self.told ≤ max l.fn.self.told (length l.records);
}
