use Rattle.std.proofs.Common.{take}
use Rattle.gate_turns.specs.inner.Counts.{AreCounts}
use Rattle.gate_turns.proofs.counts.count_remainders.Given as goal

abbrev pub invariant-loop-peer : goal.invariant-loop-peer
invariant-loop-peer l = AreCounts (take l.peer-index l.peers) l.counts
