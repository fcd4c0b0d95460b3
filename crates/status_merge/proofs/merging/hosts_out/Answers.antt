use Rattle.std.proofs.Common.{◌+◌, ap, arith, ◌∙◌}
use Rattle.std.specs.HashSet.{contains}
use Rattle.status_merge.specs.inner.Hosts.{same_host}
use Rattle.status_merge.proofs.HostSteps.{out_more}
use Rattle.status_merge.proofs.merging.hosts_out.Goals as goal
use Rattle.status_merge.proofs.merging.hosts_out.Goals.{then-is_host_out+in_ok-insert, else-is_host_out}

pub loop-object-preserved : goal.loop-object-preserved
loop-object-preserved c = λ name. elim c.if-is_host_out.branch [
  | then-is_host_out+in_ok-insert w ↦
      out_more c.args.objects.now c.loop-object.object-index (c.loop-object.object-index + 1) _ name.now _ _ _ c.loop-object-test.true
      (omega arith) w.if-is_host_out.ensures (ap (λ found. contains same_host found name) w.found-is ∙ w.in_ok-insert.ensures.updates.0 name)
      (c.loop-object.invariant name)
  | else-is_host_out w ↦
      out_more c.args.objects.now c.loop-object.object-index (c.loop-object.object-index + 1) _ name.now _ _ _ c.loop-object-test.true
      (omega arith) w.if-is_host_out.ensures (ap (λ found. contains same_host found name) w.found-is) (c.loop-object.invariant name)
]
