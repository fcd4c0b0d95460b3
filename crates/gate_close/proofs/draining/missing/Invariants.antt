use Rattle.std.proofs.Common.{ℕ, ◌≤◌}
use Rattle.std.specs.Prelude.{IsTrue}
use Rattle.gate_close.specs.DrainedClose.{is_present}
use Rattle.gate_close.proofs.draining.missing.Given as goal

abbrev pub invariant-loop-before : goal.invariant-loop-before
invariant-loop-before l = (d : ℕ) → 1 ≤ d → d ≤ l.before → IsTrue (is_present l.given l.taker.ended d)
