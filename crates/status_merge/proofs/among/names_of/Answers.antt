use Rattle.std.proofs.Common.{◌+◌, arith}
use Rattle.status_merge.proofs.AmongSteps.{name_more}
use Rattle.status_merge.proofs.among.names_of.Goals as goal

pub loop-object-preserved : goal.loop-object-preserved
loop-object-preserved c = λ name.
    name_more c.args.objects.now c.loop-object.object-index (c.loop-object.object-index + 1) _ name.0.now name.1.now _ _
    c.loop-object-test.true (omega arith) (c.in_ok-insert.ensures.updates.0 name) (c.loop-object.invariant name)
