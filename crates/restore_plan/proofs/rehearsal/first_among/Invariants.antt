use Rattle.std.proofs.Common.{◌≡◌, drop}
use Rattle.std.specs.Prelude.{not}
use Rattle.std.specs.List.{position_from}
use Rattle.gate_model.specs.declared.record.Outcome.{Outcome}
use Rattle.gate_model.specs.Record.{is_accepted}
use Rattle.restore_plan.specs.Rehearsal.{first_among}
use Rattle.restore_plan.proofs.rehearsal.first_among.Given as goal

abbrev pub invariant-loop-index : goal.invariant-loop-index
invariant-loop-index l =
    position_from (λ (outcome : Outcome). not (is_accepted outcome)) l.index (drop l.index l.outcomes) ≡ first_among l.outcomes
