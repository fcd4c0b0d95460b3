use Rattle.std.proofs.Common.{take, None}
use Rattle.gate_turns.specs.Standing.{others}
use Rattle.gate_turns.specs.Pages.{is_slow, is_behind}
use Rattle.gate_turns.proofs.FirstSteps.{FirstSoFar}
use Rattle.gate_turns.proofs.turns.slowest.Given as goal

abbrev pub invariant-loop-place : goal.invariant-loop-place
invariant-loop-place l = FirstSoFar (is_slow l.now) is_behind (take l.place (others l.peers None)) l.first
