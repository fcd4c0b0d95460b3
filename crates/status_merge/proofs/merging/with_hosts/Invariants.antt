use Rattle.std.proofs.Common.{◌≡◌, ◌++◌, drop, map}
use Rattle.status_merge.specs.declared.gateway.MergedObject.{MergedObject}
use Rattle.status_merge.specs.Objects.{has_host_out, with_hosts}
use Rattle.status_merge.proofs.merging.with_hosts.Given as goal

abbrev pub invariant-loop-object : goal.invariant-loop-object
invariant-loop-object l =
    l.found.items
    ++ map (λ (object : MergedObject). record object { host_is_out = has_host_out l.objects object }) (drop l.object-index l.objects)
    ≡ with_hosts l.objects
