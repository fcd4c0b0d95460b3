use Rattle.std.proofs.Common.{◌∙◌}
use Rattle.status_export.proofs.WritingSteps.{one, more, begun}
use Rattle.status_export.proofs.entries.push_downtimes.Goals as goal

pub loop-entry-init : goal.loop-entry-init
loop-entry-init c =
    let adds = more _ _ _ _ _ (one _ _ _ _ c.in_ok-key.ensures) (one _ _ _ _ c.in_ok-begin_array.ensures) in
    let items = c.as_slice-entry-items.ensures.value ∙ c.in_ok-entries.ensures in
    record { before = adds.before; added = rw (← items) (begun _ _ _ _ adds) }
