use Rattle.operator_words.proofs.command_line.downtime.Goals as goal

pub returns : goal.returns
returns c =
    let one = c.add-command.ensures _ _ c.windowed.ensures c.option.ensures in
    let two = c.add-command-2.ensures _ _ one c.option-trigger.ensures in
    c.add.ensures _ _ two c.flag.ensures
