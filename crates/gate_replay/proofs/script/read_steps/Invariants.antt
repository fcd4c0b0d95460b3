use Rattle.gate_replay.specs.inner.Parsing.{parsed_from, IsOpenSoFar}
use Rattle.gate_replay.proofs.script.read_steps.Given as goal

abbrev pub invariant-loop-index : goal.invariant-loop-index
invariant-loop-index l = IsOpenSoFar (parsed_from l.lines) l.index l.setup l.steps.items
