use Rattle.std.proofs.Common.{take}
use Rattle.gate_turns.specs.Waiting.{times_left}
use Rattle.gate_turns.proofs.LeastSteps.{LeastSoFar}
use Rattle.gate_turns.proofs.waiting.time_left.Given as goal

abbrev pub invariant-loop-peer : goal.invariant-loop-peer
invariant-loop-peer l = LeastSoFar (times_left l.now l.silence_millis l.is_ending (take l.peer-index l.peers)) l.least
