use Rattle.std.proofs.Common.{◌≤◌, vec_len}
use Rattle.gate_run_log.proofs.writing.write_run_log.Given as goal

abbrev pub invariant-loop : goal.invariant-loop
invariant-loop g l =
    (goal.iterator-loop g).can_next l.iterator' × (goal.iterator-loop g).is_finite l.iterator' × (l.output.written ≤ vec_len l.output.text)
