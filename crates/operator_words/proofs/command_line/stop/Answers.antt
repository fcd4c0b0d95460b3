use Rattle.operator_words.proofs.command_line.stop.Goals as goal

pub returns : goal.returns
returns c =
    let one = c.on_page-command.ensures _ c.asking.ensures in
    c.add.ensures _ _ one c.option.ensures
