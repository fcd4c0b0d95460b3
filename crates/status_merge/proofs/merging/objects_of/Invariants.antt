use Rattle.std.proofs.Common.{◌≡◌, ◌++◌, drop}
use Rattle.std.specs.List.{flat_map}
use Rattle.status_merge.specs.Objects.{objects_on}
use Rattle.status_merge.proofs.merging.objects_of.Given as goal

abbrev pub invariant-loop-gateway : goal.invariant-loop-gateway
invariant-loop-gateway l =
    l.objects.items ++ flat_map objects_on (drop l.gateway-index l.gateways) ≡ flat_map objects_on l.gateways
