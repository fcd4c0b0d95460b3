use Rattle.statusweb.proofs.words.command_line.Goals as goal

pub returns : goal.returns
returns c =
    let listen = c.add-line.ensures _ _ c.option-listen.ensures.rule c.unnamed.ensures in
    let gateway = c.add-line-2.ensures _ _ c.gateway.ensures.rule listen in
    let title = c.add-line-3.ensures _ _ c.option-title.ensures.rule gateway in
    let refresh = c.add-line-4.ensures _ _ c.option.ensures.rule title in
    let every = c.add-line-5.ensures _ _ c.option-2.ensures.rule refresh in
    c.add.ensures _ _ c.host.ensures.rule every
