use Rattle.operator_words.proofs.command_line.asking.Goals as goal

pub returns : goal.returns
returns c =
    let one = c.add-command.ensures _ _ c.begun.ensures c.option-config.ensures in
    let two = c.add-command-2.ensures _ _ one c.option-operators.ensures in
    let three = c.add-command-3.ensures _ _ two c.option-pages.ensures in
    c.add.ensures _ _ three c.option.ensures
