use Rattle.status_reading.specs.Rows.{page_view}
use Rattle.operator_ports.proofs.WatchingSteps.{SoFar}
use Rattle.operator_ports.proofs.watching.watch.Given as goal

abbrev pub invariant-loop : goal.invariant-loop
invariant-loop g l =
    SoFar l.body (page_view l.before) (g.G.Gateway.done l.fn.gateway) (g.G.Gateway.done l.gateway) l.counter
