use Rattle.std.proofs.Common.{map, subst}
use Rattle.std.proofs.lemmas.List.{take_all}
use Rattle.gate_kept.specs.inner.Put.{texts, ArePut}
use Rattle.gate_kept.proofs.WriteSteps.{put_next, written_whole}
use Rattle.gate_kept.proofs.writing.write_kept.Goals as goal

pub loop-command-preserved : goal.loop-command-preserved
loop-command-preserved c =
    put_next c.args.commands.now c.loop-command.command-index c.command-item.result _ _ c.loop-command-test.true c.command-item.is c.loop-command.invariant c.in_ok-put.ensures

pub returns : goal.returns
returns c =
    let all = subst (λ l. ArePut l (texts c.loop-command.text.items c.loop-command.lines.items (map (λ one. one.now) c.loop-command.left.items)))
    (take_all c.loop-command.command-index c.args.commands.now c.loop-command-test.false) c.loop-command.invariant in
    written_whole c.args.commands.now _ c.append.new.self.items all c.in_ok-append.ensures.items
