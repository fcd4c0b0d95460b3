use Rattle.operator_words.proofs.command_line.with_object.Goals as goal

pub returns : goal.returns
returns c = λ app is.
    let one = c.add-command.ensures _ _ is c.word.ensures in
    c.add.ensures _ _ one c.word-service.ensures
