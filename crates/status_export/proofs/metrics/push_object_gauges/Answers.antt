use Rattle.status_export.proofs.WritingSteps.{last_bytes, end_bytes}
use Rattle.status_export.proofs.metrics.push_object_gauges.Goals as goal

pub returns : goal.returns
returns c =
    last_bytes _ _ _ _ _ _ c.in_ok-push_state_gauge.ensures (
    last_bytes _ _ _ _ _ _ c.in_ok-push_number_gauge.ensures (
    last_bytes _ _ _ _ _ _ c.in_ok-push_number_gauge-2.ensures (
    last_bytes _ _ _ _ _ _ c.in_ok-push_number_gauge-3.ensures (
    end_bytes _ _ _ _ c.push_number_gauge-4.ensures))))
