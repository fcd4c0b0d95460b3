use Rattle.std.proofs.Common.{◌≡◌, ◌+◌, drop}
use Rattle.restore_plan.specs.Plan.{taken_at}
use Rattle.restore_plan.proofs.plan.taken_at.Given as goal

abbrev pub invariant-loop-one : goal.invariant-loop-one
invariant-loop-one l = record {
  counted : l.taken ≡ l.one-index;
  rest : l.taken + taken_at l.index (drop l.one-index l.left) ≡ taken_at l.index l.left;
}
