-- The names of alarms, for programs: `alarm_name`. Own words.
use Rattle.std.specs.Prelude.{ℕ, List, codes}
use Rattle.status_memory.specs.declared.alarm.Alarm.{Alarm}
use Rattle.status_memory.specs.declared.alarm.Alarm.TheVariants.{NoPage, NoNewPage, StandsStill, ClockAhead, Closing, FewerObjects, OtherObjects}

abbrev pub alarm_name : Alarm → List ℕ
alarm_name NoPage = codes "no page"
alarm_name (NoNewPage age) = codes "no new page"
alarm_name (StandsStill age) = codes "stands still"
alarm_name (ClockAhead seconds) = codes "clock ahead"
alarm_name Closing = codes "closing"
alarm_name (FewerObjects objects most) = codes "fewer objects"
alarm_name OtherObjects = codes "other objects"
