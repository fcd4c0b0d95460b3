-- The changes of states that are kept of gateways (`AreChanges`), as a page, as a feed or as JSON lines
-- (`IsChangesBody`). Own rules.
use Rattle.std.specs.Prelude.{◌≡◌, ℕ, Bool, true, false, List, [], ◌∷◌, ◌++◌, map, reverse, Option, Some, None, codes}
use Rattle.std.specs.Arc.{arc_value}
use Rattle.std.specs.List.{AllZip, flat_map}
use Rattle.std.specs.List.Sorted.{IsPermutation, IsNonDecreasingBy}
use Rattle.json.specs.Json.{Json, null, string, object}
use Rattle.gate_model.specs.declared.state.State.{State}
use Rattle.gate_lines.specs.Lines.{state_name}
use Rattle.status_memory.specs.declared.memory.Kept.{Kept}
use Rattle.status_memory.specs.declared.history.StateChange.{StateChange}
use Rattle.status_memory.specs.declared.history.GatewayChange.{GatewayChange}
use Rattle.status_memory.specs.History.{ChangeView, change_view}
use Rattle.status_export.specs.Document.{members_of, number_json, field_json, service_json, compact_text}
use Rattle.status_merge.specs.declared.gateway.Gateway.{Gateway}
use Rattle.status_view.specs.declared.view.View.{View}
use Rattle.status_view.specs.Shapes.{gateway_shape}
use Rattle.status_view.specs.ChangesLayout.{change_shape, changes_nodes, feed_nodes}
use Rattle.status_view.specs.Filling.{filled, html_bytes}
use Rattle.status_serving.specs.declared.headings.Heading.{Heading}
use Rattle.page_watching.specs.declared.watching.Seen.{Seen}
use Rattle.status_serving.specs.declared.changing.ChangesForm.{ChangesForm}
use Rattle.status_serving.specs.declared.changing.ChangesForm.TheVariants.{Html, Feed, Lines}
use Rattle.page_watching.specs.Watching.{Shared}
use Rattle.status_serving.specs.Pages.{IsShown}

-- ---- the changes

-- the changes that are kept with a page
abbrev pub changes_in : Option (Kept Shared) → List StateChange
changes_in None = []
changes_in (Some kept) = (arc_value kept.page.text).changes.items

-- a change, with the name of its gateway
abbrev pub named : GatewayChange → List ℕ × ChangeView
named shown = (shown.gateway.now, change_view shown.change.now)

-- those that are kept of a gateway
abbrev pub changes_on : Seen → List (List ℕ × ChangeView)
changes_on seen = map (λ change. (seen.place.name.now, change_view change)) (changes_in seen.memory.last)

abbrev pub moment_of : GatewayChange → ℕ
moment_of shown = shown.change.now.moment

-- these are the changes that are kept of the gateways, the newest first
pub record AreChanges (seen : List Seen) (changes : List GatewayChange) : Type 0 where
  pub all : IsPermutation (flat_map changes_on seen) (map named changes)
  pub newest_first : IsNonDecreasingBy moment_of (reverse changes)

-- ---- JSON, an object on each line

-- the state before a change; an object that is new has none
abbrev pub from_json : Option State → Json
from_json None = null
from_json (Some state) = string (state_name state)

abbrev pub change_json : GatewayChange → Json
change_json shown =
    object (members_of (
    (codes "moment", number_json shown.change.now.moment)
    ∷ (codes "gateway", string shown.gateway.now)
    ∷ (codes "host", field_json shown.change.now.host.items)
    ∷ (codes "service", service_json shown.change.now.service.items)
    ∷ (codes "from", from_json shown.change.now.from)
    ∷ (codes "to", string (state_name shown.change.now.to))
    ∷ []
    ))

-- the text of a change, and an LF
abbrev pub change_line : GatewayChange → List ℕ
change_line shown = compact_text (change_json shown) ++ 10 ∷ []

abbrev pub change_lines : List GatewayChange → List ℕ
change_lines changes = flat_map change_line changes

-- ---- what is shown of them

-- a page of these gateways and changes at this clock shows this
pub record ListsChanges (heading : Heading) (gateways : List Gateway) (shown : List GatewayChange) (now : ℕ) (view : View)
    : Type 0 where
  pub title : view.title.now ≡ heading.title.now
  pub clock : view.clock ≡ now
  pub refresh : view.refresh ≡ heading.refresh
  pub pages : view.gateways.now ≡ gateways
  pub changes : view.changes.now ≡ shown

-- these changes in this form; as a page with the alarms about these gateways
abbrev pub IsChangesText : Heading → List Gateway → List GatewayChange → ℕ → ChangesForm → List ℕ → Type 0
IsChangesText heading gateways changes clock Html body =
    (view : View) × ListsChanges heading gateways changes clock view
    × (body ≡ html_bytes (filled view
    (changes_nodes view.refresh (map gateway_shape view.gateways.now) (map change_shape view.changes.now))))
IsChangesText heading gateways changes clock Feed body =
    (view : View) × ListsChanges heading gateways changes clock view
    × (body ≡ html_bytes (filled view (feed_nodes view.clock (map change_shape view.changes.now))))
IsChangesText heading gateways changes clock Lines body = body ≡ change_lines changes

-- the changes that are kept of gateways, for an answer that has a body; nothing for another
abbrev pub IsChangesBody : Bool → Heading → List Seen → ℕ → ChangesForm → List ℕ → Type 0
IsChangesBody true heading seen clock form body =
    (gateways : List Gateway) × AllZip (IsShown clock) seen gateways
    × ((changes : List GatewayChange) × AreChanges seen changes × IsChangesText heading gateways changes clock form body)
IsChangesBody false heading seen clock form body = body ≡ []

-- the type of a form
abbrev pub kind_of : ChangesForm → List ℕ
kind_of Html = codes "text/html; charset=utf-8"
kind_of Feed = codes "application/atom+xml"
kind_of Lines = codes "application/x-ndjson"
