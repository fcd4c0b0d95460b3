use Rattle.operator_words.proofs.command_line.uncomment.Goals as goal

pub returns : goal.returns
returns c =
    let one = c.add-command.ensures _ _ c.worded-command.ensures c.words.ensures in
    c.add.ensures _ _ one c.flag.ensures
