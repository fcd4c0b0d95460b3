use Rattle.operator_words.proofs.command_line.command_line.Goals as goal

pub returns : goal.returns
returns c =
    let one = c.with-command.ensures _ _ c.top.ensures c.ack.ensures in
    let two = c.with-command-2.ensures _ _ one c.comment_command.ensures in
    let three = c.with-command-3.ensures _ _ two c.downtime.ensures in
    let four = c.with-command-4.ensures _ _ three c.on_object-unack.ensures in
    let five = c.with-command-5.ensures _ _ four c.passive.ensures in
    let six = c.with-command-6.ensures _ _ five c.result_command.ensures in
    let seven = c.with-command-7.ensures _ _ six c.uncomment.ensures in
    let eight = c.with-command-8.ensures _ _ seven c.cancel.ensures in
    let nine = c.with-command-9.ensures _ _ eight c.status.ensures in
    let ten = c.with-command-10.ensures _ _ nine c.watch.ensures in
    let eleven = c.with-command-11.ensures _ _ ten c.check.ensures in
    let twelve = c.with-command-12.ensures _ _ eleven c.shutdown.ensures in
    let thirteen = c.with-command-13.ensures _ _ twelve c.test_config.ensures in
    let fourteen = c.with-command-14.ensures _ _ thirteen c.log.ensures in
    let fifteen = c.with-command-15.ensures _ _ fourteen c.stop.ensures in
    c.with.ensures _ _ fifteen c.restore.ensures
