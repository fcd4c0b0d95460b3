use Rattle.std.proofs.Common.{◌≡◌, ◌≤◌, take}
use Rattle.gate_turns.specs.Standing.{connections}
use Rattle.gate_turns.proofs.counts.connections.Given as goal

abbrev pub invariant-loop-peer : goal.invariant-loop-peer
invariant-loop-peer l = (l.count ≡ connections (take l.peer-index l.peers) l.address) × (l.count ≤ l.peer-index)
