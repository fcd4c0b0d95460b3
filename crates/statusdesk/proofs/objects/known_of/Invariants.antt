use Rattle.std.proofs.Common.{map}
use Rattle.statusdesk.specs.Objects.{known_view}
use Rattle.statusdesk.proofs.KnownSteps.{AreSoFar}
use Rattle.statusdesk.proofs.objects.known_of.Given as goal

abbrev pub invariant-loop-one : goal.invariant-loop-one
invariant-loop-one l = AreSoFar l.named.host.now l.named.service.now l.seen l.one-index (map known_view l.all.items)
