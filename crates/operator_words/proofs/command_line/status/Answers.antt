use Rattle.operator_words.proofs.command_line.status.Goals as goal

pub returns : goal.returns
returns c =
    let one = c.add-command.ensures _ _ c.plain-command.ensures c.option.ensures in
    c.add.ensures _ _ one c.option-2.ensures
