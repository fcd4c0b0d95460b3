use Rattle.std.proofs.Common.{◌≡◌, ◌++◌, drop}
use Rattle.std.specs.List.{flat_map}
use Rattle.status_view.specs.OneObject.{rows_on}
use Rattle.status_view.proofs.one_object.rows_of.Given as goal

abbrev pub invariant-loop-gateway : goal.invariant-loop-gateway
invariant-loop-gateway l =
    l.rows.items ++ flat_map (rows_on l.asked) (drop l.gateway-index l.gateway-items)
    ≡ flat_map (rows_on l.asked) l.asked.gateways.now
