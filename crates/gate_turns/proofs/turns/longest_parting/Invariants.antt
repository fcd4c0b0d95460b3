use Rattle.std.proofs.Common.{take, None}
use Rattle.gate_turns.specs.Standing.{others}
use Rattle.gate_turns.specs.Turns.{owes_longer}
use Rattle.gate_turns.specs.Pages.{is_parting}
use Rattle.gate_turns.proofs.FirstSteps.{FirstSoFar}
use Rattle.gate_turns.proofs.turns.longest_parting.Given as goal

abbrev pub invariant-loop-place : goal.invariant-loop-place
invariant-loop-place l = FirstSoFar is_parting owes_longer (take l.place (others l.peers None)) l.first
