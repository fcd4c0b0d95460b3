use Rattle.operator_lines.proofs.ReplySteps.{read_of, none_read, inverse}
use Rattle.operator_lines.proofs.replies.read_reply.Goals as goal

pub returns : goal.returns
returns c =
    let line = c.args.line.now in
    record {
      read = read_of line c.number_in.result c.reply_in.result c.reply_in.ensures;
      inverse = inverse line c.number_in.result c.reply_in.result c.number_in.ensures c.reply_in.ensures;
      none = none_read line c.number_in.result c.reply_in.result c.number_in.ensures c.reply_in.ensures;
    }
