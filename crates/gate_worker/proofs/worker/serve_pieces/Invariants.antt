use Rattle.std.proofs.Common.{◌≡◌, ◌≤◌, Some}
use Rattle.std.specs.Prelude.{IfSome, is_some}
use Rattle.gate_worker.proofs.Working.{Worked}
use Rattle.gate_worker.proofs.worker.serve_pieces.Given as goal

abbrev pub invariant-loop : goal.invariant-loop
invariant-loop g l =
    (goal.iterator-loop g).can_next l.iterator' × (goal.iterator-loop g).is_finite l.iterator'
    × (l.client.gate ≡ l.serving.gate.now) × (l.client.number ≡ l.fn.client.number)
    × IfSome l.closer (λ c. (c.cell ≡ l.serving.gate.now.cell) × IfSome c.known_close (λ first. l.client.known_close ≡ Some first))
    × (is_some l.closer ≡ is_some l.fn.closer)
    × (l.table.counted ≤ l.serving.limits.sessions)
    × Worked (is_some l.fn.closer) l.serving.limits (g.K.Watch.shows l.serving.clock.now) (g.C.Connections.streams l.fn.connections) (g.C.Connections.streams l.connections)
    (g.C.Connections.parted l.fn.connections) (g.C.Connections.parted l.connections) l.fn.client l.reports.items l.table l.client
