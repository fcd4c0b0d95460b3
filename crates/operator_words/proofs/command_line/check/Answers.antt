use Rattle.operator_words.proofs.command_line.check.Goals as goal

pub returns : goal.returns
returns c =
    let one = c.add-command.ensures _ _ c.asking.ensures c.option-agents.ensures in
    let two = c.add-command-2.ensures _ _ one c.option-age.ensures in
    let three = c.add-command-3.ensures _ _ two c.option-keep.ensures in
    c.add.ensures _ _ three c.words.ensures
