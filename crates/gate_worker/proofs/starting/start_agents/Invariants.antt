use Rattle.std.proofs.Common.{◌≡◌, ◌+◌, ◌≤◌, length, map, vec_len}
use Rattle.gate_queue.specs.Opening.{new_clients}
use Rattle.gate_worker.specs.Served.{EndsSo}
use Rattle.gate_worker.specs.inner.Starting.{AreStarted}
use Rattle.gate_worker.proofs.starting.start_agents.Given as goal

abbrev pub invariant-loop-client : goal.invariant-loop-client
invariant-loop-client g l =
    (l.clients.items ≡ new_clients l.shared.gate.now (length l.clients.items))
    × (length l.endpoints.items ≡ length l.clients.items)
    × (length l.started.items + length l.clients.items ≡ length l.fn.clients.items)
    × (length l.fn.clients.items ≤ l.started.cap)
    × AreStarted (λ handle end. EndsSo handle.promise.is_operator handle.promise.limits (g.K.Watch.shows handle.promise.clock.now) (g.C.Connections.streams handle.promise.connections.value)
    handle.promise.client.value end.reports.items end.ended end.cause)
    l.shared.limits (g.K.Watch.shows l.shared.clock.now) l.shared.gate.now
    (map (λ endpoint. g.C.Connections.streams endpoint.connections) l.fn.endpoints.items) l.started.items (map (λ endpoint. g.C.Connections.streams endpoint.connections) l.endpoints.items)

abbrev pub decreases-loop-client : goal.decreases-loop-client
decreases-loop-client g l = vec_len l.clients
