use Rattle.operator_words.proofs.command_line.on_page.Goals as goal

pub returns : goal.returns
returns c = λ app begun.
    let one = c.add-command.ensures _ _ begun c.word-page.ensures in
    c.add.ensures _ _ one c.option.ensures
