use Rattle.std.proofs.Common.{length, ap, ◌∙◌}
use Rattle.gate_model.proofs.MeaningSteps.{length-outcomes_of}
use Rattle.gate_applier.proofs.applier.Applier.outcomes.Goals as goal

pub returns-clause-one_each : goal.returns-clause-one_each
returns-clause-one_each c =
    rw (← c.self.view_is) (ap length c.self.invariant.outcomes_are ∙ length-outcomes_of c.self.inside.table c.self.inside.records.items)
