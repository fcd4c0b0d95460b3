use Rattle.operator_words.proofs.command_line.ack.Goals as goal

pub returns : goal.returns
returns c =
    let one = c.add-command.ensures _ _ c.remark.ensures c.flag-sticky.ensures in
    c.add.ensures _ _ one c.flag.ensures
