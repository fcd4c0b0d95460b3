use Rattle.std.proofs.Common.{drop}
use Rattle.operator_lines.specs.Asking.{connection}
use Rattle.operator_lines.proofs.AskingSteps.{SoFar}
use Rattle.operator_lines.proofs.asking.converse.Given as goal

abbrev pub invariant-loop-command : goal.invariant-loop-command
invariant-loop-command g l =
    let sink = g.W.Sink.state in
    SoFar l.fn.commands (drop l.command-index l.fn.commands) l.fn.replies.items l.replies.items
    (connection (sink l.fn.writer) (g.R.Read.remaining l.fn.reader))
    (connection (sink l.writer) (g.R.Read.remaining l.reader))
