-- A reader of JSON finds the document in its text: it is nested no deeper than a reader takes.
use Rattle.std.proofs.Common.{◌≡◌, ℕ, ◌≤◌, List, [], ◌∷◌, map, Option, Some, None, Ok, Err, option_and_then, string_bytes, refl, sym, ap, ◌∙◌, arith, lit≤, append-nil}
use Rattle.std.specs.List.{flat_map}
use Rattle.json.specs.Json.{Json, value, if_last, max_depth, document}
use Rattle.json.specs.Lex.{tokens}
use Rattle.json.specs.Tree.{json_tokens, depth, items_depth}
use Rattle.json.proofs.Printed.Trees.{value-json_tokens}
use Rattle.status_reading.specs.declared.rows.ShownComment.{ShownComment}
use Rattle.status_reading.specs.declared.rows.ShownDowntime.{ShownDowntime}
use Rattle.status_reading.specs.declared.page.StatusPage.{StatusPage}
use Rattle.status_memory.specs.declared.alarm.Alarm.{Alarm}
use Rattle.status_merge.specs.declared.gateway.Gateway.{Gateway}
use Rattle.status_merge.specs.declared.gateway.Old.{Old}
use Rattle.status_merge.specs.declared.gateway.MergedObject.{MergedObject}
use Rattle.status_merge.specs.declared.entries.Entry.{Entry}
use Rattle.status_merge.specs.Asking.{Asked}
use Rattle.status_merge.specs.Entries.{comments_on, downtimes_on}
use Rattle.status_export.specs.Document.{optional_json, service_json, alarm_json, alarms_json, items_of, reachable_json, unreachable_json, old_json, page_json, gateway_json, object_json, comment_json, downtime_json, status_document}

-- the text of these tokens is read as their value
pub read_tokens : (j : Json) (text : List ℕ) → tokens text ≡ json_tokens j → depth j ≤ max_depth → document text ≡ Some j
read_tokens j text same shallow =
    ap (option_and_then (λ p. if_last p.0 p.1))
    (ap (value max_depth) (same ∙ sym (append-nil (json_tokens j))) ∙ value-json_tokens j max_depth [] shallow)

flat_optional : (n : Option ℕ) → depth (optional_json n) ≡ 0
flat_optional None = refl
flat_optional (Some n) = refl

flat_service : (service : List ℕ) → depth (service_json service) ≡ 0
flat_service [] = refl
flat_service (byte ∷ rest) = refl

-- ---- rows are objects of flat members

flat_alarms : (alarms : List Alarm) → items_depth (items_of (map alarm_json alarms)) ≡ 0
flat_alarms [] = refl
flat_alarms (alarm ∷ alarms) = rw (flat_alarms alarms) refl

shallow_page : (name : List ℕ) (page : StatusPage) (alarms : List Alarm) → depth (reachable_json name page alarms) ≤ 2
shallow_page name page alarms = rw (flat_optional page.closing, flat_alarms alarms) (lit≤ tt)

shallow_old : (name : List ℕ) (page : StatusPage) (cause : List ℕ) (age : ℕ) (alarms : List Alarm)
    → depth (old_json name page cause age alarms) ≤ 2
shallow_old name page cause age alarms = rw (flat_optional page.closing, flat_alarms alarms) (lit≤ tt)

shallow_none : (name cause : List ℕ) (alarms : List Alarm) → depth (unreachable_json name cause alarms) ≤ 2
shallow_none name cause alarms = rw (flat_alarms alarms) (lit≤ tt)

shallow_shown : (name : List ℕ) (page : StatusPage) (old : Option Old) (alarms : List Alarm)
    → depth (page_json name page old alarms) ≤ 2
shallow_shown name page None alarms = shallow_page name page alarms
shallow_shown name page (Some old) alarms = shallow_old name page (string_bytes old.cause) old.age alarms

shallow_gateway : (gateway : Gateway) → depth (gateway_json gateway) ≤ 2
shallow_gateway gateway =
    elim gateway.page as (λ page. depth (elim page [
      | Ok page ↦ page_json gateway.name.now page gateway.old gateway.alarms.items
      | Err cause ↦ unreachable_json gateway.name.now (string_bytes cause) gateway.alarms.items
    ]) ≤ 2) [
      | Ok page ↦ shallow_shown gateway.name.now page gateway.old gateway.alarms.items
      | Err cause ↦ shallow_none gateway.name.now (string_bytes cause) gateway.alarms.items
    ]

shallow_object : (shown : MergedObject) → depth (object_json shown) ≤ 1
unfolding object_json
shallow_object shown = rw (flat_service shown.row.service.now, flat_optional shown.row.last) (lit≤ tt)

shallow_comment : (entry : Entry ShownComment) → depth (comment_json entry) ≤ 1
unfolding comment_json
shallow_comment entry = rw (flat_service entry.row.service.now) (lit≤ tt)

shallow_downtime : (entry : Entry ShownDowntime) → depth (downtime_json entry) ≤ 1
unfolding downtime_json
shallow_downtime entry = rw (flat_service entry.row.service.now, flat_optional entry.row.begin) (lit≤ tt)

-- ---- lists of them

shallow_map : {X : Type 0} (most : ℕ) (f : X → Json) → ((x : X) → depth (f x) ≤ most) → (xs : List X) → items_depth (items_of (map f xs)) ≤ most
shallow_map most f each [] = omega arith
shallow_map most f each (x ∷ xs) = omega (arith, each x, shallow_map most f each xs)

-- ---- the document

pub shallow : (gateways : List Gateway) (objects : List MergedObject) (asked : Asked) → depth (status_document gateways objects asked) ≤ max_depth
shallow gateways objects asked =
    let ones = shallow_map 2 gateway_json shallow_gateway gateways in
    let twos = shallow_map 1 object_json shallow_object objects in
    let threes = shallow_map 1 comment_json shallow_comment (flat_map (comments_on asked) gateways) in
    let fours = shallow_map 1 downtime_json shallow_downtime (flat_map (downtimes_on asked) gateways) in
    omega arith
