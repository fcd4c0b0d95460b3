use Rattle.std.proofs.Common.{◌≡◌, ◌++◌, codes, drop, map}
use Rattle.std.specs.List.{flat_map}
use Rattle.status_export.specs.Gauges.{sample_text}
use Rattle.status_export.specs.Metrics.{alarm_sample, alarm_samples}
use Rattle.status_export.proofs.metrics.push_alarm_samples.Given as goal

abbrev pub invariant-loop-alarm : goal.invariant-loop-alarm
invariant-loop-alarm l =
    l.out.items
    ++ flat_map (sample_text (codes "nscagate_alarm")) (map (alarm_sample l.gateway.name.now) (drop l.alarm-index l.alarm-items))
    ≡ l.fn.out.items ++ flat_map (sample_text (codes "nscagate_alarm")) (alarm_samples l.gateway)
