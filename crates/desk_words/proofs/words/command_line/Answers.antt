use Rattle.desk_words.proofs.words.command_line.Goals as goal

pub returns : goal.returns
returns c =
    let listen = c.add-line.ensures _ _ c.option.ensures.rule c.unnamed.ensures in
    let gateway = c.add-line-2.ensures _ _ c.list.ensures.rule listen in
    let operators = c.add-line-3.ensures _ _ c.list-2.ensures.rule gateway in
    let host = c.add-line-4.ensures _ _ c.list-3.ensures.rule operators in
    let header = c.add-line-5.ensures _ _ c.option-2.ensures.rule host in
    let users = c.add-line-6.ensures _ _ c.option-3.ensures.rule header in
    let title = c.add-line-7.ensures _ _ c.option-title.ensures.rule users in
    let refresh = c.add-line-8.ensures _ _ c.option-4.ensures.rule title in
    c.add.ensures _ _ c.option-5.ensures.rule refresh
