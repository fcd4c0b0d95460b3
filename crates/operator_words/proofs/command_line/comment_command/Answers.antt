use Rattle.operator_words.proofs.command_line.comment_command.Goals as goal

pub returns : goal.returns
returns c =
    c.add.ensures _ _ c.remark.ensures c.flag-persistent.ensures
