use Rattle.std.proofs.Common.{◌≡◌, ◌++◌, length, map}
use Rattle.std.specs.Prelude.{reverse}
use Rattle.operator_ports.specs.Commands.{entered_at}
use Rattle.operator_ports.proofs.commands.entered_at.Given as goal

abbrev pub invariant-loop-body : goal.invariant-loop-body
invariant-loop-body l =
    l.commands.items ++ map (entered_at l.entered) (reverse l.left.items) ≡ map (entered_at l.entered) l.fn.bodies.items

abbrev pub decreases-loop-body : goal.decreases-loop-body
decreases-loop-body l = length l.left.items
