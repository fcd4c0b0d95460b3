use Rattle.gate_replay.specs.inner.Parsing.{parsed_from, IsHeadSoFar}
use Rattle.gate_replay.proofs.script.read_setup.Given as goal

abbrev pub invariant-loop-index : goal.invariant-loop-index
invariant-loop-index l = IsHeadSoFar (parsed_from l.lines) l.index l.objects.items
