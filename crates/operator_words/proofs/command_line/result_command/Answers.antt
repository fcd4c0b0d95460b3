use Rattle.operator_words.proofs.command_line.result_command.Goals as goal

pub returns : goal.returns
returns c =
    let one = c.add-command.ensures _ _ c.on_object-command.ensures c.option-state.ensures in
    c.add.ensures _ _ one c.option.ensures
