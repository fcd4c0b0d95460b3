use Rattle.std.proofs.Common.{◌≡◌, ◌++◌, drop, map, codes}
use Rattle.json.specs.Tree.{items_tokens}
use Rattle.status_export.specs.Document.{alarm_json, alarms_json, items_of}
use Rattle.status_export.specs.inner.Writing.{member_tokens}
use Rattle.status_export.proofs.document.push_alarms.Given as goal

abbrev pub invariant-loop-alarm : goal.invariant-loop-alarm
invariant-loop-alarm l = record {
  before : l.writer.before ≡ l.fn.writer.before;
  added : l.writer.tokens ++ items_tokens (items_of (map alarm_json (drop l.alarm-index l.alarms)))
      ≡ l.fn.writer.tokens ++ member_tokens (codes "alarms") (alarms_json l.alarms);
}
