use Rattle.std.proofs.Common.{◌≡◌, ◌<◌, ◌==◌, take, count_by}
use Rattle.gate_kept.proofs.pieces.lines_end.Given as goal

abbrev pub invariant-loop-index : goal.invariant-loop-index
invariant-loop-index l = record {
  counted : l.count ≡ count_by (λ byte. byte == 10) (take l.index l.bytes);
  few : l.count < l.most;
}
