use Rattle.operator_words.proofs.command_line.on_object.Goals as goal

pub returns : goal.returns
returns c =
    c.with_object.ensures _ c.worded.ensures
