use Rattle.operator_words.proofs.command_line.plain.Goals as goal

pub returns : goal.returns
returns c =
    c.add.ensures _ _ c.asking.ensures c.flag-json.ensures
