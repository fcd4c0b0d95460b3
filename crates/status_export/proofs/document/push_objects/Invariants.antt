use Rattle.std.proofs.Common.{◌≡◌, ◌++◌, drop, map, codes}
use Rattle.json.specs.Json.{array}
use Rattle.json.specs.Tree.{items_tokens}
use Rattle.status_export.specs.Document.{object_json, items_of}
use Rattle.status_export.specs.inner.Writing.{member_tokens}
use Rattle.status_export.proofs.document.push_objects.Given as goal

abbrev pub invariant-loop-shown : goal.invariant-loop-shown
invariant-loop-shown l = record {
  before : l.writer.before ≡ l.fn.writer.before;
  added : l.writer.tokens ++ items_tokens (items_of (map object_json (drop l.shown-index l.objects)))
      ≡ l.fn.writer.tokens ++ member_tokens (codes "objects") (array (items_of (map object_json l.objects)));
}
