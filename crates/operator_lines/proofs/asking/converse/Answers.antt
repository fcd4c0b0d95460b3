use Rattle.std.proofs.Common.{◌∙◌, ◌++◌, ◌∷◌, [], ap}
use Rattle.operator_lines.specs.Asking.{connection}
use Rattle.operator_lines.proofs.AskingSteps.{goes_on}
use Rattle.operator_lines.proofs.asking.converse.Goals as goal

pub loop-command-preserved : goal.loop-command-preserved
loop-command-preserved g c =
    let sink = g.W.Sink.state in
    let left = g.R.Read.remaining in
    goes_on c.args.commands.now c.loop-command.command-index c.command-item.result c.in-Ok-ask.reply c.args.replies.now.items
    c.loop-command.replies.items c.push_reserved.new.self.items
    (connection (sink c.args.writer.now) (left c.args.reader.now))
    (connection (sink c.loop-command.writer) (left c.loop-command.reader))
    (connection (sink c.ask.new.writer) (left c.ask.new.reader))
    c.loop-command-test.true c.command-item.is c.loop-command.invariant c.in-Ok-ask.ensures.answered
    (c.push_reserved.ensures.items ∙ ap (λ given. given ++ c.in-Ok-ask.reply ∷ []) c.reserve.ensures.items)
