use Rattle.std.proofs.Common.{◌≡◌, ◌≤◌, vec_len, vec_capacity}
use Rattle.gate_ports.proofs.table.new_rooms.Given as goal

abbrev pub invariant-loop : goal.invariant-loop
invariant-loop l = record {
  made : vec_len l.rooms ≡ l.counter;
  within : l.counter ≤ l.count;
  room : l.count ≤ vec_capacity l.rooms;
}
