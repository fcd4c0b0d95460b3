use Rattle.std.proofs.Common.{◌≡◌, take}
use Rattle.std.specs.Prelude.{IfSome}
use Rattle.gate_turns.specs.Standing.{others, connections}
use Rattle.gate_turns.specs.Turns.{is_silent, gives_way_before}
use Rattle.gate_turns.proofs.FirstSteps.{FirstSoFar}
use Rattle.gate_turns.proofs.turns.gives_way.Given as goal

abbrev pub invariant-loop-place : goal.invariant-loop-place
invariant-loop-place l =
    FirstSoFar is_silent (gives_way_before l.peers) (take l.place (others l.peers l.except)) l.first
    × IfSome l.first (λ first. l.most ≡ connections l.peers first.1.address)
