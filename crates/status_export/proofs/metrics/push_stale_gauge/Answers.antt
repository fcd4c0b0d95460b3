use Rattle.status_export.proofs.WritingSteps.{begun_bytes}
use Rattle.status_export.proofs.metrics.push_stale_gauge.Goals as goal

pub loop-object-init : goal.loop-object-init
loop-object-init c = begun_bytes _ _ _ _ c.in_ok-push_head.ensures
