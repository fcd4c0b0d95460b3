use Rattle.gate_boards.proofs.Readers.{HasShown}
use Rattle.gate_boards.proofs.pages.show_readers.Given as goal

abbrev pub invariant-loop : goal.invariant-loop
invariant-loop g l =
    (goal.iterator-loop g).can_next l.iterator' × (goal.iterator-loop g).is_finite l.iterator'
    × HasShown (g.C.Connections.streams l.fn.connections) (g.C.Connections.streams l.connections)
    (g.C.Connections.parted l.fn.connections) (g.C.Connections.parted l.connections)
