use Rattle.std.proofs.Common.{◌≡◌, ◌++◌, drop}
use Rattle.std.specs.List.{flat_map}
use Rattle.operator_restoring.specs.Restored.{left_line}
use Rattle.operator_restoring.proofs.restore_word.push_left.Given as goal

abbrev pub invariant-loop-command : goal.invariant-loop-command
invariant-loop-command l =
    l.out.items ++ flat_map (λ one. left_line one.now) (drop l.command-index l.left)
    ≡ l.fn.out.items ++ flat_map (λ one. left_line one.now) l.left
