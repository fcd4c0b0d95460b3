use Rattle.std.proofs.Common.{◌≡◌, ◌+◌, ◌≤◌, drop}
use Rattle.desk_guard.proofs.TokenSteps.{differences}
use Rattle.desk_guard.proofs.token.is_same.Given as goal

abbrev pub invariant-loop-index : goal.invariant-loop-index
invariant-loop-index l = record {
  few : l.differing ≤ l.index;
  so_far : l.differing + differences (drop l.index l.one) (drop l.index l.other) ≡ differences l.one l.other;
}
