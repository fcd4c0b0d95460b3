use Rattle.std.proofs.Common.{take, map}
use Rattle.gate_kept.specs.inner.Put.{texts, ArePut}
use Rattle.gate_kept.proofs.writing.write_kept.Given as goal

abbrev pub invariant-loop-command : goal.invariant-loop-command
invariant-loop-command l = ArePut (take l.command-index l.commands) (texts l.text.items l.lines.items (map (λ one. one.now) l.left.items))
