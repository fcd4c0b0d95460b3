use Rattle.std.proofs.Common.{take}
use Rattle.gate_turns.specs.Standing.{others, can_be_served}
use Rattle.gate_turns.specs.Turns.{was_ready_before}
use Rattle.gate_turns.proofs.FirstSteps.{FirstSoFar}
use Rattle.gate_turns.proofs.turns.first_ready.Given as goal

abbrev pub invariant-loop-place : goal.invariant-loop-place
invariant-loop-place l = FirstSoFar can_be_served was_ready_before (take l.place (others l.peers l.except)) l.first
