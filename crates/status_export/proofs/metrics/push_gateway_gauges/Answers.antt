use Rattle.status_export.proofs.WritingSteps.{last_bytes, end_bytes}
use Rattle.status_export.proofs.metrics.push_gateway_gauges.Goals as goal

pub returns : goal.returns
returns c =
    last_bytes _ _ _ _ _ _ c.in_ok-push_up_gauge.ensures (
    last_bytes _ _ _ _ _ _ c.in_ok-push_alarm_gauge.ensures (
    last_bytes _ _ _ _ _ _ c.in_ok-push_age_gauge.ensures (
    last_bytes _ _ _ _ _ _ c.in_ok-push_page_gauge.ensures (
    last_bytes _ _ _ _ _ _ c.in_ok-push_page_gauge-2.ensures (
    last_bytes _ _ _ _ _ _ c.in_ok-push_page_gauge-3.ensures (
    last_bytes _ _ _ _ _ _ c.in_ok-push_page_gauge-4.ensures (
    end_bytes _ _ _ _ c.push_page_gauge-5.ensures)))))))
