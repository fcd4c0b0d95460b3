use Rattle.std.proofs.Common.{◌≡◌, ◌≤◌, vec_len}
use Rattle.std.specs.Prelude.{vec_capacity}
use Rattle.nscagate.proofs.serving.agents_endpoints.Given as goal

abbrev pub invariant-loop-worker : goal.invariant-loop-worker
invariant-loop-worker g l = record {
  made : vec_len l.endpoints ≡ l.worker;
  room : l.workers ≤ vec_capacity l.endpoints;
  within : l.worker ≤ l.workers;
}
