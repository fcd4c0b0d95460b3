-- What is shown of gateways: the page that is kept of each (`IsShown`); and the pages are merged, selected by the query
-- of a URL, and laid out as HTML (`IsPage`), as JSON (`json_body`) or as metrics (`metrics_body`): `IsStatusBody`.
use Rattle.std.specs.Prelude.{◌≡◌, ℕ, Bool, true, false, List, [], length, map, filter, Option, Some, None, Result, Ok, Err, String, codes, string_bytes}
use Rattle.std.specs.declared.alloc.Global.{Global}
use Rattle.std.specs.Arc.{arc_value}
use Rattle.std.specs.List.{AllZip, flat_map}
use Rattle.std.specs.Option.{option_map}
use Rattle.form_urlencoded.specs.Form.{raw_pairs}
use Rattle.status_reading.specs.declared.page.StatusPage.{StatusPage}
use Rattle.status_reading.specs.Rows.{PageView, page_view}
use Rattle.status_reading.specs.Text.{IsTextOf}
use Rattle.status_memory.specs.declared.memory.Kept.{Kept}
use Rattle.status_memory.specs.declared.alarm.Alarm.{Alarm}
use Rattle.status_memory.specs.declared.history.Since.{Since}
use Rattle.status_memory.specs.History.{ResultView, result_view, shown_rows}
use Rattle.status_memory.specs.Memory.{age_of, old_alarm, alarms_of}
use Rattle.status_merge.specs.declared.gateway.Gateway.{Gateway}
use Rattle.status_merge.specs.declared.gateway.Old.{Old}
use Rattle.status_merge.specs.declared.gateway.MergedObject.{MergedObject}
use Rattle.status_merge.specs.Asking.{asked_in, asked_by, sort_asked, page_asked, refresh_asked, form_asked}
use Rattle.status_merge.specs.Objects.{objects_on, merged, with_hosts}
use Rattle.status_merge.specs.Selecting.{selected, page_rows}
use Rattle.status_merge.specs.Sorting.{IsInOrder}
use Rattle.status_merge.specs.Entries.{comment_view, comment_lines, is_comment_among, downtime_view, downtime_lines, is_downtime_among}
use Rattle.status_view.specs.declared.view.View.{View}
use Rattle.status_view.specs.Shapes.{page_shape}
use Rattle.status_view.specs.Page.{page_nodes}
use Rattle.status_view.specs.declared.layout.EntryList.TheVariants as entries
use Rattle.status_view.specs.EntriesPage.{entries_page_nodes}
use Rattle.status_view.specs.Filling.{filled, html_bytes}
use Rattle.status_export.specs.Document.{compact_text, status_document}
use Rattle.status_export.specs.Metrics.{metrics_page}
use Rattle.status_serving.specs.declared.headings.Heading.{Heading}
use Rattle.status_serving.specs.declared.bodies.Form.{Form}
use Rattle.status_serving.specs.declared.bodies.Form.TheVariants.{Html, Comments, Downtimes, Json, Metrics}
use Rattle.page_watching.specs.declared.causes.NoPage.{NoPage}
use Rattle.page_watching.specs.declared.watching.Seen.{Seen}
use Rattle.page_watching.specs.Causes.{cause_of, old_cause}
use Rattle.page_watching.specs.Watching.{Shared, bytes_of}

-- ---- what is kept

-- a page, with each of its rows by the earlier result, where it has one
abbrev pub shown_page : PageView → List (Option ResultView) → PageView
shown_page page results = record page { objects = shown_rows page.objects results }

-- the earlier results by which the objects of a page are shown
abbrev pub held_in : Kept Shared → List (Option ResultView)
held_in kept = map (option_map result_view) (arc_value kept.page.text).held.items

-- this is the page that is kept, each object as it is shown
abbrev pub IsShownPage : Kept Shared → PageView → Type 0
IsShownPage kept page =
    (fetched : PageView) × IsTextOf (bytes_of kept.page.text) fetched × (page ≡ shown_page fetched (held_in kept))

-- that page, or the cause why there is none
abbrev pub IsPageOf : Option (Kept Shared) → Option NoPage → Result StatusPage (String Global) → Type 0
IsPageOf (Some kept) fault (Ok page) = IsShownPage kept (page_view page)
IsPageOf (Some kept) fault (Err cause) = ⊥
IsPageOf None fault (Ok page) = ⊥
IsPageOf None fault (Err cause) = string_bytes cause ≡ cause_of fault

-- whether the page that is kept is old, by the alarm that says so, how old in seconds, and the cause
abbrev pub IsOldOf : Option Alarm → ℕ → Option NoPage → Option Old → Type 0
IsOldOf (Some alarm) age fault (Some old) = (old.age ≡ age) × (string_bytes old.cause ≡ old_cause alarm fault)
IsOldOf (Some alarm) age fault None = ⊥
IsOldOf None age fault old = old ≡ None

-- since when each object of the page that is kept has the state that is shown
abbrev pub since_in : Option (Kept Shared) → List Since
since_in None = []
since_in (Some kept) = (arc_value kept.page.text).since.items

-- a gateway as it is shown at a moment, of which this is kept
pub record IsShown (now : ℕ) (seen : Seen) (gateway : Gateway) : Type 0 where
  pub name : gateway.name.now ≡ seen.place.name.now
  pub page : IsPageOf seen.memory.last seen.memory.fault gateway.page
  pub old : IsOldOf (old_alarm now seen.memory) (age_of now seen.memory) seen.memory.fault gateway.old
  pub alarms : gateway.alarms.items ≡ alarms_of now seen.memory
  pub since : gateway.since.now ≡ since_in seen.memory.last

-- ---- what is shown of it

-- the objects of all pages, each once
abbrev pub objects_of : List Gateway → List MergedObject
objects_of gateways = with_hosts (merged (flat_map objects_on gateways))

-- those that a query selects, by rank
abbrev pub asked_of : List Gateway → List ℕ → List MergedObject
asked_of gateways query = selected (asked_in (raw_pairs query)) (objects_of gateways)

-- a page of these gateways for a query at this clock shows this
pub record Views (heading : Heading) (gateways : List Gateway) (query : List ℕ) (now : ℕ) (view : View) : Type 0 where
  pub title : view.title.now ≡ heading.title.now
  pub clock : view.clock ≡ now
  pub refresh : view.refresh ≡ heading.refresh
  pub marks : view.marks ≡ heading.marks
  pub asked : asked_by view.query.now ≡ asked_in (raw_pairs query)
  pub sort : view.query.now.sort ≡ sort_asked (raw_pairs query)
  pub page : view.query.now.page ≡ page_asked (raw_pairs query)
  pub seconds : view.query.now.refresh ≡ refresh_asked heading.refresh (raw_pairs query)
  pub form : view.query.now.form ≡ form_asked (raw_pairs query)
  pub pages : view.gateways.now ≡ gateways
  pub all : view.all.now ≡ objects_of gateways
  pub selected : view.selected ≡ length (asked_of gateways query)
  pub rows : List MergedObject
  pub in_order : IsInOrder (sort_asked (raw_pairs query)) (asked_of gateways query) rows
  pub objects : view.objects.now ≡ page_rows (page_asked (raw_pairs query)) rows
  pub comments : map comment_view view.comments.now
      ≡ filter (is_comment_among view.objects.now) (comment_lines (asked_in (raw_pairs query)) gateways)
  pub downtimes : map downtime_view view.downtimes.now
      ≡ filter (is_downtime_among view.objects.now) (downtime_lines (asked_in (raw_pairs query)) gateways)

-- the page for a browser at this clock
abbrev pub IsPage : Heading → List Gateway → List ℕ → ℕ → List ℕ → Type 0
IsPage heading gateways query clock body =
    (view : View) × Views heading gateways query clock view
    × (body ≡ html_bytes (filled view (page_nodes (page_shape view))))

-- a page of a list of these gateways for a query at this clock has this beside the list
pub record ListViews (heading : Heading) (gateways : List Gateway) (query : List ℕ) (now : ℕ) (view : View) : Type 0 where
  pub title : view.title.now ≡ heading.title.now
  pub clock : view.clock ≡ now
  pub asked : asked_by view.query.now ≡ asked_in (raw_pairs query)
  pub sort : view.query.now.sort ≡ sort_asked (raw_pairs query)
  pub page : view.query.now.page ≡ page_asked (raw_pairs query)
  pub seconds : view.query.now.refresh ≡ refresh_asked heading.refresh (raw_pairs query)
  pub pages : view.gateways.now ≡ gateways

-- the page of the comments on the hosts that a query asks for: 500 of them, by its number
pub record IsCommentsPage (heading : Heading) (gateways : List Gateway) (query : List ℕ) (clock : ℕ) (body : List ℕ) : Type 0 where
  pub view : View
  pub views : ListViews heading gateways query clock view
  pub all : view.selected ≡ length (comment_lines (asked_in (raw_pairs query)) gateways)
  pub rows : map comment_view view.comments.now
      ≡ page_rows (page_asked (raw_pairs query)) (comment_lines (asked_in (raw_pairs query)) gateways)
  pub bytes : body ≡ html_bytes (filled view (entries_page_nodes entries.Comments (page_shape view)))

-- the same of their downtime entries
pub record IsDowntimesPage (heading : Heading) (gateways : List Gateway) (query : List ℕ) (clock : ℕ) (body : List ℕ) : Type 0 where
  pub view : View
  pub views : ListViews heading gateways query clock view
  pub all : view.selected ≡ length (downtime_lines (asked_in (raw_pairs query)) gateways)
  pub rows : map downtime_view view.downtimes.now
      ≡ page_rows (page_asked (raw_pairs query)) (downtime_lines (asked_in (raw_pairs query)) gateways)
  pub bytes : body ≡ html_bytes (filled view (entries_page_nodes entries.Downtimes (page_shape view)))

-- the same as JSON
abbrev pub json_body : List Gateway → List ℕ → List ℕ
json_body gateways query =
    compact_text (status_document gateways (asked_of gateways query) (asked_in (raw_pairs query)))

-- the metrics of all objects
abbrev pub metrics_body : List Gateway → List ℕ
metrics_body gateways = metrics_page gateways (objects_of gateways)

-- the status of these gateways at this clock in this form
abbrev pub IsStatusText : Heading → List Gateway → List ℕ → ℕ → Form → List ℕ → Type 0
IsStatusText heading gateways query clock Html body = IsPage heading gateways query clock body
IsStatusText heading gateways query clock Comments body = IsCommentsPage heading gateways query clock body
IsStatusText heading gateways query clock Downtimes body = IsDowntimesPage heading gateways query clock body
IsStatusText heading gateways query clock Json body = body ≡ json_body gateways query
IsStatusText heading gateways query clock Metrics body = body ≡ metrics_body gateways

-- the status of what is kept of gateways, for an answer that has a body; nothing for another
abbrev pub IsStatusBody : Bool → Heading → List Seen → List ℕ → ℕ → Form → List ℕ → Type 0
IsStatusBody true heading seen query clock form body =
    (gateways : List Gateway) × AllZip (IsShown clock) seen gateways
    × IsStatusText heading gateways query clock form body
IsStatusBody false heading seen query clock form body = body ≡ []

-- the type of a form
abbrev pub status_kind : Form → List ℕ
status_kind Html = codes "text/html; charset=utf-8"
status_kind Comments = codes "text/html; charset=utf-8"
status_kind Downtimes = codes "text/html; charset=utf-8"
status_kind Json = codes "application/json"
status_kind Metrics = codes "text/plain; version=0.0.4; charset=utf-8"
