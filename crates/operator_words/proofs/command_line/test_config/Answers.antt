use Rattle.operator_words.proofs.command_line.test_config.Goals as goal

pub returns : goal.returns
returns c =
    c.add.ensures _ _ c.begun-command.ensures c.word.ensures
