use Rattle.operator_words.proofs.command_line.remark.Goals as goal

pub returns : goal.returns
returns c =
    let one = c.add-command.ensures _ _ c.on_object.ensures c.comment.ensures in
    c.add.ensures _ _ one c.option.ensures
