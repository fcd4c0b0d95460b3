use Rattle.std.proofs.Common.{take}
use Rattle.std.specs.List.{AllZip}
use Rattle.status_serving.specs.Pages.{IsShown}
use Rattle.status_serving.proofs.bodies.gateways_of.Given as goal

abbrev pub invariant-loop-one : goal.invariant-loop-one
invariant-loop-one l = AllZip (IsShown l.now) (take l.one-index l.seen) l.gateways.items
