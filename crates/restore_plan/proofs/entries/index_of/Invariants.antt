use Rattle.std.proofs.Common.{◌≡◌, ℕ, ◌==◌, drop}
use Rattle.std.specs.List.{position_from}
use Rattle.restore_plan.proofs.entries.index_of.Given as goal

abbrev pub invariant-loop-index : goal.invariant-loop-index
invariant-loop-index l =
    position_from (λ (one : ℕ). one == l.id) l.index (drop l.index l.ids) ≡ position_from (λ (one : ℕ). one == l.id) 0 l.ids
