use Rattle.std.proofs.Common.{◌≡◌, ◌++◌, drop, map, codes}
use Rattle.std.specs.List.{flat_map}
use Rattle.json.specs.Json.{array}
use Rattle.json.specs.Tree.{items_tokens}
use Rattle.status_merge.specs.Asking.{asked_by}
use Rattle.status_merge.specs.Entries.{comments_on}
use Rattle.status_export.specs.Document.{comment_json, items_of}
use Rattle.status_export.specs.inner.Writing.{member_tokens}
use Rattle.status_export.proofs.entries.push_comments.Given as goal

abbrev pub invariant-loop-entry : goal.invariant-loop-entry
invariant-loop-entry l = record {
  before : l.writer.before ≡ l.fn.writer.before;
  added : l.writer.tokens ++ items_tokens (items_of (map comment_json (drop l.entry-index l.entry-items)))
      ≡ l.fn.writer.tokens
      ++ member_tokens (codes "comments") (array (items_of (map comment_json (flat_map (comments_on (asked_by l.query)) l.gateways))));
}
