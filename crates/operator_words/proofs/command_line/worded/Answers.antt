use Rattle.operator_words.proofs.command_line.worded.Goals as goal

pub returns : goal.returns
returns c =
    c.add.ensures _ _ c.plain.ensures c.flag.ensures
