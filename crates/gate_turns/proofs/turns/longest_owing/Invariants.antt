use Rattle.std.proofs.Common.{take}
use Rattle.gate_turns.specs.Standing.{others}
use Rattle.gate_turns.specs.Turns.{owes, owes_longer}
use Rattle.gate_turns.proofs.FirstSteps.{FirstSoFar}
use Rattle.gate_turns.proofs.turns.longest_owing.Given as goal

abbrev pub invariant-loop-place : goal.invariant-loop-place
invariant-loop-place l =
    FirstSoFar (owes l.silence_millis l.is_ending) owes_longer (take l.place (others l.peers l.except)) l.first
