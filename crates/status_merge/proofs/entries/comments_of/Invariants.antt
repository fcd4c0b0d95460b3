use Rattle.std.proofs.Common.{◌≡◌, ◌++◌, drop}
use Rattle.std.specs.List.{flat_map}
use Rattle.status_merge.specs.Asking.{asked_by}
use Rattle.status_merge.specs.Entries.{comments_on}
use Rattle.status_merge.proofs.entries.comments_of.Given as goal

abbrev pub invariant-loop-gateway : goal.invariant-loop-gateway
invariant-loop-gateway l =
    l.entries.items ++ flat_map (comments_on (asked_by l.query)) (drop l.gateway-index l.gateways)
    ≡ flat_map (comments_on (asked_by l.query)) l.gateways
