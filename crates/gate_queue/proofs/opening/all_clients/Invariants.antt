use Rattle.std.proofs.Common.{◌≡◌, []}
use Rattle.once_cell.specs.Once.{cell_name}
use Rattle.crossbeam_queue.specs.Passes.{view as pass_view, IsPassOf}
use Rattle.gate_core.specs.Limits.{limits_of}
use Rattle.gate_queue.specs.Gate.{gate_id}
use Rattle.gate_queue.specs.Opening.{new_clients}
use Rattle.gate_queue.specs.inner.Rule.{taker}
use Rattle.gate_queue.proofs.opening.all_clients.Given as goal

abbrev pub invariant-loop-made : goal.invariant-loop-made
invariant-loop-made l = IsPassOf l.ring l.pass × (pass_view l.pass ≡ taker l.bounds.clients l.bounds.quota l.bounds.capacity l.made [] [])
    × (l.clients.items ≡ new_clients (gate_id l.ring.table.shared.table_id (cell_name l.cell) (limits_of l.bounds.clients l.bounds.quota l.bounds.capacity)) l.made)
