use Rattle.std.proofs.Common.{◌≡◌, ◌++◌, map, drop}
use Rattle.statusdesk.specs.Objects.{at_view, known_view}
use Rattle.statusdesk.proofs.objects.object_body.Given as goal

abbrev pub invariant-loop-one : goal.invariant-loop-one
invariant-loop-one g l =
    map at_view l.gateways.items ++ map known_view (drop l.one-index l.known) ≡ map known_view l.known
