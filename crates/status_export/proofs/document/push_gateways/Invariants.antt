use Rattle.std.proofs.Common.{◌≡◌, ◌++◌, drop, map, codes}
use Rattle.json.specs.Json.{array}
use Rattle.json.specs.Tree.{items_tokens}
use Rattle.status_export.specs.Document.{gateway_json, items_of}
use Rattle.status_export.specs.inner.Writing.{member_tokens}
use Rattle.status_export.proofs.document.push_gateways.Given as goal

abbrev pub invariant-loop-gateway : goal.invariant-loop-gateway
invariant-loop-gateway l = record {
  before : l.writer.before ≡ l.fn.writer.before;
  added : l.writer.tokens ++ items_tokens (items_of (map gateway_json (drop l.gateway-index l.gateways)))
      ≡ l.fn.writer.tokens ++ member_tokens (codes "gateways") (array (items_of (map gateway_json l.gateways)));
}
