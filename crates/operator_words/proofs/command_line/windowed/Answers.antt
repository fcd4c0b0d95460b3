use Rattle.operator_words.proofs.command_line.windowed.Goals as goal

pub returns : goal.returns
returns c =
    let one = c.add-command.ensures _ _ c.remark-command.ensures c.option.ensures in
    let two = c.add-command-2.ensures _ _ one c.option-2.ensures in
    c.add.ensures _ _ two c.option-3.ensures
