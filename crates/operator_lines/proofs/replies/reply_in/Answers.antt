use Rattle.std.proofs.Common.{◌∙◌, ap, min}
use Rattle.operator_lines.proofs.ReplySteps.{finds}
use Rattle.operator_lines.proofs.replies.reply_in.Goals as goal

pub returns : goal.returns
returns c =
    finds c.args.line.now c.args.number c.min-argument.result c.first_of.result
    (c.min-argument.ensures ∙ ap (min c.args.number) c.from.ensures) c.first_of.ensures
