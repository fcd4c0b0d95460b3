use Rattle.std.proofs.Common.{◌≡◌, length}
use Rattle.gate_ports.specs.Peers.{IsRead}
use Rattle.gate_ports.proofs.peer.Peer.hand_out.Given as goal

abbrev pub invariant-loop : goal.invariant-loop
invariant-loop l = record {
  room : length l.buf ≡ length l.fn.buf;
  scratch : length l.scratch ≡ length l.fn.scratch;
  read : IsRead l.fn.self l.self;
}
