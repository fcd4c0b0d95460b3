use Rattle.std.proofs.Common.{◌≡◌, vec_len}
use Rattle.gate_ports.proofs.table.Table.free_place.Given as goal

abbrev pub invariant-loop-place : goal.invariant-loop-place
invariant-loop-place l = l.self.standings.items ≡ l.fn.self.standings.items

abbrev pub decreases-loop-place : goal.decreases-loop-place
decreases-loop-place l = vec_len l.self.free
