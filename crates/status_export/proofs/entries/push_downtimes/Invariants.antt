use Rattle.std.proofs.Common.{◌≡◌, ◌++◌, drop, map, codes}
use Rattle.std.specs.List.{flat_map}
use Rattle.json.specs.Json.{array}
use Rattle.json.specs.Tree.{items_tokens}
use Rattle.status_merge.specs.Asking.{asked_by}
use Rattle.status_merge.specs.Entries.{downtimes_on}
use Rattle.status_export.specs.Document.{downtime_json, items_of}
use Rattle.status_export.specs.inner.Writing.{member_tokens}
use Rattle.status_export.proofs.entries.push_downtimes.Given as goal

abbrev pub invariant-loop-entry : goal.invariant-loop-entry
invariant-loop-entry l = record {
  before : l.writer.before ≡ l.fn.writer.before;
  added : l.writer.tokens ++ items_tokens (items_of (map downtime_json (drop l.entry-index l.entry-items)))
      ≡ l.fn.writer.tokens
      ++ member_tokens (codes "downtimes") (array (items_of (map downtime_json (flat_map (downtimes_on (asked_by l.query)) l.gateways))));
}
