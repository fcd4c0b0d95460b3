use Rattle.std.proofs.Common.{Bor}
use Rattle.gate_grammar.specs.declared.commands.Command.{Command}
use Rattle.operator_restoring.specs.Restored.{left_line}
use Rattle.operator_restoring.proofs.RestoredSteps.{row-appended}
use Rattle.operator_restoring.proofs.restore_word.push_left.Goals as goal

pub loop-command-preserved : goal.loop-command-preserved
loop-command-preserved c =
    row-appended (λ (one : Bor Command). left_line one.now) c.args.left.now c.loop-command.command-index c.command-item.result
    c.loop-command.out.items c.push_command.new.out.items _ c.loop-command-test.true c.command-item.is c.in_ok-push_command.ensures
    c.loop-command.invariant
