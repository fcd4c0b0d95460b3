use Rattle.status_export.proofs.WritingSteps.{last_bytes, end_bytes}
use Rattle.status_export.proofs.metrics.push_state_gauge.Goals as goal

pub returns : goal.returns
returns c =
    last_bytes _ _ _ _ _ _ c.in_ok-push_head.ensures (
    last_bytes _ _ _ _ _ _ c.in_ok-push_state_sample.ensures (
    last_bytes _ _ _ _ _ _ c.in_ok-push_state_sample-2.ensures (
    last_bytes _ _ _ _ _ _ c.in_ok-push_state_sample-3.ensures (
    last_bytes _ _ _ _ _ _ c.in_ok-push_state_sample-4.ensures (
    last_bytes _ _ _ _ _ _ c.in_ok-push_state_sample-5.ensures (
    last_bytes _ _ _ _ _ _ c.in_ok-push_state_sample-6.ensures (
    last_bytes _ _ _ _ _ _ c.in_ok-push_state_sample-7.ensures (
    last_bytes _ _ _ _ _ _ c.in_ok-push_state_sample-8.ensures (
    end_bytes _ _ _ _ c.push_state_sample-9.ensures)))))))))
