use Rattle.operator_words.proofs.command_line.passive.Goals as goal

pub returns : goal.returns
returns c =
    let one = c.add-command.ensures _ _ c.worded-command.ensures c.word.ensures in
    c.with_object.ensures _ one
