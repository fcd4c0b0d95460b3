use Rattle.operator_words.proofs.command_line.watch.Goals as goal

pub returns : goal.returns
returns c =
    c.add.ensures _ _ c.plain-command.ensures c.option.ensures
