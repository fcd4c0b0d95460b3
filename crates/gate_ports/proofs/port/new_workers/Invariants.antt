use Rattle.std.proofs.Common.{◌≡◌, ◌≤◌, vec_len, vec_capacity}
use Rattle.gate_ports.proofs.port.new_workers.Given as goal

abbrev pub invariant-loop : goal.invariant-loop
invariant-loop g l = record {
  made : vec_len l.workers ≡ l.counter;
  within : l.counter ≤ l.count;
  room : l.count ≤ vec_capacity l.workers;
}
