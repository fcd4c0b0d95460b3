use Rattle.operator_words.proofs.command_line.restore.Goals as goal

pub returns : goal.returns
returns c =
    let one = c.add.ensures _ _ c.begun.ensures c.option-config.ensures in
    let two = c.on_page-command.ensures _ one in
    c.add-2.ensures _ _ two c.flag.ensures
