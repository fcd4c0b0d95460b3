use Rattle.std.proofs.Common.{◌≡◌, ◌++◌, length}
use Rattle.std.specs.List.{concat, AllByRecursion}
use Rattle.gate_kept.specs.Pieces.{IsShort}
use Rattle.gate_kept.proofs.pieces.pieces_of.Given as goal

abbrev pub invariant-left : goal.invariant-left
invariant-left l = record {
  whole : l.bytes ≡ concat l.pieces.items ++ l.left;
  each : AllByRecursion (IsShort l.part l.most) l.pieces.items;
}

abbrev pub decreases-left : goal.decreases-left
decreases-left l = length l.left
