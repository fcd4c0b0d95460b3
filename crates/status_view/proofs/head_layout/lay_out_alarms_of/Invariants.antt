use Rattle.std.proofs.Common.{◌≡◌, ◌++◌, drop}
use Rattle.std.specs.List.{flat_map}
use Rattle.status_view.specs.HeadLayout.{alarm_nodes}
use Rattle.status_view.proofs.head_layout.lay_out_alarms_of.Given as goal

abbrev pub invariant-loop-alarm : goal.invariant-loop-alarm
invariant-loop-alarm l =
    l.layout ++ flat_map (alarm_nodes l.index) (drop l.alarm-index l.alarms)
    ≡ l.fn.layout ++ flat_map (alarm_nodes l.index) l.alarms
