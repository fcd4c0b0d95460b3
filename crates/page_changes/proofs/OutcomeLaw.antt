-- What is foreseen by a gateway's page is its outcome, at the page's moment.
use Rattle.std.proofs.Common.{◌≡◌, ℕ, suc, ◌+◌, ◌<◌, ◌==◌, ◌&&◌, ◌||◌, Bool, true, false, List, [], ◌∷◌, ◌++◌, map, filter, length, reverse, Option, Some, None, is_some, inl, inr, refl, sym, ap, subst, ◌∙◌, arith}
use Rattle.std.specs.Prelude.{Result, Ok, Err, IfOk, find, nat_le, option_map, slice_get, if◌then◌else◌, IfSome}
use Rattle.std.specs.List.{AllByRecursion}
use Rattle.std.proofs.lemmas.Bool.{and_parts, cases_Bool, eqb-true, true≢false}
use Rattle.std.proofs.lemmas.List.{map-append, reverse-append, reverse-reverse}
use Rattle.gate_model.specs.declared.record.Moment.{Moment}
use Rattle.gate_model.specs.declared.record.Outcome.{Outcome}
use Rattle.gate_model.specs.declared.record.Outcome.TheVariants.{Accepted, NoSuchHost, NoServices, NoSuchComment, NoSuchDowntime, WrongKind, NoProblem, NotAcknowledged, PassiveDisabled, BadWindow, WindowPast, NoSuchTrigger}
use Rattle.gate_model.specs.declared.object.Kind.{Kind}
use Rattle.gate_model.specs.declared.object.Kind.TheVariants.{Service}
use Rattle.gate_model.specs.declared.object.ObjectId.{ObjectId}
use Rattle.gate_model.specs.declared.object.ObjectLine.{ObjectLine}
use Rattle.gate_model.specs.declared.submission.Body.{Body}
use Rattle.gate_model.specs.declared.act.Span.{Span}
use Rattle.gate_model.specs.declared.act.Deed.{Deed}
use Rattle.gate_model.specs.declared.act.Deed.TheVariants as deeds
use Rattle.gate_model.specs.declared.act.Act.{Act}
use Rattle.gate_model.specs.declared.act.Act.TheVariants as acts
use Rattle.gate_model.specs.Act.{act_of}
use Rattle.gate_model.specs.declared.status.Acknowledgement.{Acknowledgement}
use Rattle.gate_model.specs.declared.comments.Comment.{Comment}
use Rattle.gate_model.specs.declared.downtime.Scheduled.{Scheduled}
use Rattle.gate_model.specs.declared.downtime.Entry.{Entry}
use Rattle.gate_model.specs.declared.downtime.DowntimeEvent.{DowntimeEvent}
use Rattle.gate_model.specs.State.{is_problem}
use Rattle.gate_model.specs.Status.{state_of, is_passive, acknowledgement_of}
use Rattle.gate_model.specs.Comments.{comments_of}
use Rattle.gate_model.specs.Downtime.{entries_of, scheduled_in, transition_of, was_deleted, begin_of}
use Rattle.gate_model.specs.Table.{place_of, has_object, object_kind, object_at, object_of, is_service_line_of, services_from, services_of}
use Rattle.gate_model.specs.Meaning.{Judged, is_same_kind, object_events, comment_events, downtime_events, outlives, is_live_after, history_of, comments_at, LiveEntry, outcome_at, outcome_after}
use Rattle.gate_model.specs.Meaning as meaning
use Rattle.gate_table.proofs.ServiceSteps.{services-cons}
use Rattle.gate_pages.specs.Rows.{service_of, comment_row, downtime_row}
use Rattle.gate_lines.specs.Lines.{service_text}
use Rattle.status_reading.specs.declared.rows.ShownAcknowledgement.TheVariants.{Normal, Sticky}
use Rattle.status_reading.specs.Rows.{ObjectView, CommentView, DowntimeView, PageView}
use Rattle.status_reading.specs.Board.{acknowledgement_shown, shown_comment, shown_downtime, shown_board}
use Rattle.status_reading.specs.Gateway.{GatewayView, IsGateway, published_board}
use Rattle.status_reading.proofs.BareSteps.{HasLength, line_length, found_line}
use Rattle.status_reading.proofs.EachSteps.{each_filter, each_map, each_reverse}
use Rattle.status_reading.proofs.ObjectSteps.{comments_each, scheduled_each}
use Rattle.status_reading.proofs.IdSteps.{Ascend, ascend_map, scheduled_ascend}
use Rattle.page_changes.specs.Names.{shown_names, kind_of_field, row_with}
use Rattle.page_changes.specs.Foreseen.{is_acknowledged, outcome_of_row, row_for, outcome_for, outcome_of_field, comment_field, downtime_field, is_entry, outcome_of_span, has_services, outcome_of_deed, outcome_of_act, outcome_on, as_shown}
use Rattle.page_changes.proofs.NameSteps.{AllNamed, all_named, kind_shown, found_same, row_judged, services_judged, no_line, row_at}
use Rattle.page_changes.proofs.FindSteps.{find_reverse, find_filter, has, has_reverse, has_kept, live_there}

-- ---- outcomes that a page shows

accepted_or : (test : Bool) (refusal : Outcome) → as_shown refusal ≡ refusal → (if test then Accepted else refusal) ≡ as_shown (if test then Accepted else refusal)
accepted_or true refusal same = refl
accepted_or false refusal same = sym same

passive_shown : (test : Bool) → Accepted ≡ as_shown (if test then Accepted else PassiveDisabled)
passive_shown true = refl
passive_shown false = refl

window_shown : (empty past live : Bool)
    → (if empty then BadWindow else (if past then WindowPast else (if live then Accepted else NoSuchTrigger)))
    ≡ as_shown (if empty then BadWindow else (if past then WindowPast else (if live then Accepted else NoSuchTrigger)))
window_shown true past live = refl
window_shown false true live = refl
window_shown false false true = refl
window_shown false false false = refl

services_shown : (services : List ObjectId) (plan window : Outcome) → plan ≡ as_shown window
    → meaning.outcome_of_services services plan ≡ as_shown (meaning.outcome_of_services services window)
services_shown [] plan window same = refl
services_shown (one ∷ services) plan window same = same

host_shown : (known : Bool) (one other : Outcome) → one ≡ as_shown other → (if known then one else NoSuchHost) ≡ as_shown (if known then other else NoSuchHost)
host_shown true one other same = same
host_shown false one other same = refl

made_shown : (sticky : Bool) (made : Acknowledgement) → is_acknowledged (acknowledgement_shown (Some made)) ≡ true
made_shown sticky made = either made.sticky
  where
    either : (test : Bool) → is_acknowledged (if test then Sticky else Normal) ≡ true
    either true = refl
    either false = refl

acknowledged_shown : (found : Option Acknowledgement) → is_acknowledged (acknowledgement_shown found) ≡ is_some found
acknowledged_shown None = refl
acknowledged_shown (Some made) = made_shown made.sticky made

named_length : (name : List ℕ) → (length name == 0) ≡ false → 0 < length name
named_length [] is = absurd (true≢false is)
named_length (byte ∷ rest) is = omega arith

-- ---- an object that a gateway has

-- the object stands in the table, and is of the kind of its line
record IsKnown (table : List ObjectLine) (found : ObjectId) : Type 0 where
  line : ObjectLine
  here : slice_get table found.place ≡ Some line
  kind : found.kind ≡ object_kind line.service

known_at : (table : List ObjectLine) (host : List ℕ) (service : Option (List ℕ)) (found : Option ℕ) → place_of table host service ≡ found
    → IfSome (option_map (object_at (object_kind service)) found) (IsKnown table)
known_at table host service None is = tt
known_at table host service (Some place) is =
    let found = found_line table host service place is in
    record { line = found.0; here = found.1; kind = ap object_kind (sym found.2) }

object_known : (table : List ObjectLine) (host : List ℕ) (service : Option (List ℕ)) → IfSome (object_of table host service) (IsKnown table)
object_known table host service = known_at table host service (place_of table host service) refl

-- what holds of each line at its place
abbrev StandAt : List ObjectLine → ℕ → List ObjectLine → Type 0
StandAt table place lines = (index : ℕ) (line : ObjectLine) → slice_get lines index ≡ Some line → slice_get table (place + index) ≡ Some line

service_known : (table : List ObjectLine) (host : List ℕ) (place : ℕ) (line : ObjectLine) (rest : List ObjectId) → slice_get table place ≡ Some line
    → AllByRecursion (IsKnown table) rest → (test : Bool) → test ≡ is_service_line_of host line
    → AllByRecursion (IsKnown table) (if test then object_at Service place ∷ rest else rest)
service_known table host place line rest here all false is = all
service_known table host place line rest here all true is =
    (record { line = line; here = here; kind = sym (named line.service (and_parts _ _ (sym is)).1) }, all)
  where
    named : (service : Option (List ℕ)) → is_some service ≡ true → object_kind service ≡ Service
    named None none = cc
    named (Some name) some = refl

services_known : (table : List ObjectLine) (host : List ℕ) (place : ℕ) (lines : List ObjectLine) → StandAt table place lines
    → AllByRecursion (IsKnown table) (services_from host place lines)
services_known table host place [] stand = tt
services_known table host place (line ∷ lines) stand =
    let first : slice_get table place ≡ Some line =
    (let at : place + 0 ≡ place = omega arith in subst (λ (other : ℕ). slice_get table other ≡ Some line) at (stand 0 line refl)) in
    let later : StandAt table (place + 1) lines =
    (λ index one is. let at : place + suc index ≡ place + 1 + index = omega arith in
    subst (λ (other : ℕ). slice_get table other ≡ Some one) at (stand (suc index) one is)) in
    subst (AllByRecursion (IsKnown table)) (sym (services-cons host place line lines))
    (service_known table host place line (services_from host (place + 1) lines) first (services_known table host (place + 1) lines later)
    (is_service_line_of host line) refl)

host_services_known : (table : List ObjectLine) (host : List ℕ) → AllByRecursion (IsKnown table) (services_of table host)
host_services_known table host =
    services_known table host 0 table
    (λ index line here. let at : index ≡ 0 + index = omega arith in subst (λ (other : ℕ). slice_get table other ≡ Some line) at here)

-- ---- a comment or an entry by its id

field_chosen : (kind : Kind) (missing : Outcome) (test : Bool) (field : List ℕ) (rest : Option (List ℕ)) (object : ObjectId) (found : Option ObjectId)
    → kind_of_field field ≡ object.kind → outcome_of_field kind missing rest ≡ as_shown (meaning.outcome_of_id kind missing found)
    → outcome_of_field kind missing (if test then Some field else rest) ≡ as_shown (meaning.outcome_of_id kind missing (if test then Some object else found))
field_chosen kind missing false field rest object found same later = later
field_chosen kind missing true field rest object found same later =
    ap (λ (other : Kind). if is_same_kind kind other then Accepted else WrongKind) same
    ∙ accepted_or (is_same_kind kind object.kind) WrongKind refl

mapped_choice : {A B : Type 0} (made : A → B) (test : Bool) (one : A) (rest : Option A)
    → option_map made (if test then Some one else rest) ≡ (if test then Some (made one) else option_map made rest)
mapped_choice made true one rest = refl
mapped_choice made false one rest = refl

-- the row of an id is that of the one with this id: of rows that are made of a list
module _ {A B : Type 0} (table : List ObjectLine) (kind : Kind) (missing : Outcome) (shows_missing : as_shown missing ≡ missing) (id : ℕ)
    (row_of : A → B) (row_id : B → ℕ) (row_field : B → List ℕ) (id_of : A → ℕ) (object_of_one : A → ObjectId)
    (same_id : (one : A) → row_id (row_of one) ≡ id_of one)
    (same_kind : (one : A) → IsKnown table (object_of_one one) → kind_of_field (row_field (row_of one)) ≡ (object_of_one one).kind) where
  row_found : (list : List A) → AllByRecursion (λ (one : A). IsKnown table (object_of_one one)) list
      → outcome_of_field kind missing (option_map row_field (find (λ row. row_id row == id) (map row_of list)))
      ≡ as_shown (meaning.outcome_of_id kind missing (option_map object_of_one (find (λ one. id_of one == id) list)))
  row_found [] all = sym shows_missing
  row_found (one ∷ list) all =
      let rows = find (λ row. row_id row == id) (map row_of list) in
      let ones = find (λ other. id_of other == id) list in
      ap (outcome_of_field kind missing)
      (ap (λ (other : ℕ). option_map row_field (if other == id then Some (row_of one) else rows)) (same_id one)
      ∙ mapped_choice row_field (id_of one == id) (row_of one) rows)
      ∙ field_chosen kind missing (id_of one == id) (row_field (row_of one)) (option_map row_field rows) (object_of_one one) (option_map object_of_one ones)
      (same_kind one all.0) (row_found list all.1)
      ∙ ap (λ (found : Option ObjectId). as_shown (meaning.outcome_of_id kind missing found)) (sym (mapped_choice object_of_one (id_of one == id) one ones))

map_map : {A B C : Type 0} (first : A → B) (second : B → C) (list : List A) → map second (map first list) ≡ map (λ one. second (first one)) list
map_map first second [] = refl
map_map first second (one ∷ list) = ap (λ rest. second (first one) ∷ rest) (map_map first second list)

reversed_map : {A B : Type 0} (made : A → B) (list : List A) → reverse (map made list) ≡ map made (reverse list)
reversed_map made [] = refl
reversed_map made (one ∷ list) =
    reverse-append (made one ∷ []) (map made list)
    ∙ ap (λ front. front ++ made one ∷ []) (reversed_map made list)
    ∙ sym (map-append made (reverse list) (one ∷ []))
    ∙ ap (map made) (sym (reverse-append (one ∷ []) list))

has_map : {A B : Type 0} (id : ℕ) (row_of : A → B) (row_id : B → ℕ) (id_of : A → ℕ) → ((one : A) → row_id (row_of one) ≡ id_of one)
    → (list : List A) → has row_id id (map row_of list) ≡ has id_of id list
has_map id row_of row_id id_of same [] = refl
has_map id row_of row_id id_of same (one ∷ list) =
    ap (λ (other : ℕ). (other == id) || has row_id id (map row_of list)) (same one)
    ∙ ap (λ (rest : Bool). (id_of one == id) || rest) (has_map id row_of row_id id_of same list)

-- ---- the gateway

module _ (gateway : GatewayView) (is : IsGateway gateway) where
  abbrev table : List ObjectLine
  table = gateway.table

  abbrev moment : Moment
  moment = gateway.moment

  abbrev history : List Judged
  history = history_of table gateway.records

  abbrev page : PageView
  page = shown_board (published_board gateway)

  abbrev events : List DowntimeEvent
  events = downtime_events table history

  abbrev entries : List Entry
  entries = entries_of 1 events

  named_all : AllNamed table
  named_all = all_named table is.table

  kind_is : (found : ObjectId) → IsKnown table found → kind_of_field (service_text (service_of (slice_get table found.place))) ≡ found.kind
  kind_is found known =
      ap (λ (line : Option ObjectLine). kind_of_field (service_text (service_of line))) known.here
      ∙ kind_shown known.line.service (line_length table found.place known.line is.table known.here)
      ∙ sym known.kind

  -- ---- objects

  module _ (judge : ObjectView → Outcome) (other : ℕ → Outcome)
      (each : (place : ℕ) (line : ObjectLine) → judge (row_at table gateway.opening gateway.records moment place line) ≡ as_shown (other place)) where
    found_law : (host : List ℕ) (service : Option (List ℕ)) → HasLength service
        → outcome_of_row judge (row_with (shown_names host service) page.objects) ≡ as_shown (meaning.outcome_at_place other (place_of table host service))
    found_law host service some = row_judged table gateway.opening gateway.records moment judge other each host service some 0 table named_all

    row_law : (host : List ℕ) (service : Option (List ℕ))
        → outcome_of_row judge (row_for page host service) ≡ as_shown (meaning.outcome_at_place other (place_of table host service))
    row_law host None = found_law host None tt
    row_law host (Some name) =
        let row = row_with (shown_names host (Some name)) page.objects in
        elim (cases_Bool (length name == 0)) [
          | inl none ↦
              ap (λ (nameless : Bool). outcome_of_row judge (if nameless then None else row)) none
              ∙ ap (λ (found : Option ℕ). as_shown (meaning.outcome_at_place other found)) (sym (no_line host name (eqb-true (length name) 0 none) 0 table named_all))
          | inr some ↦
              ap (λ (nameless : Bool). outcome_of_row judge (if nameless then None else row)) some
              ∙ found_law host (Some name) (named_length name some)
        ]

    object_law : (host : List ℕ) (service : Option (List ℕ)) → outcome_for page host service judge ≡ as_shown (meaning.outcome_for table host service other)
    object_law host service =
        let found = outcome_of_row judge (row_for page host service) in
        ap (λ (known : Bool). if known then found else NoSuchHost) (found_same table gateway.opening gateway.records moment host None tt 0 table named_all)
        ∙ host_shown (has_object table host None) found (meaning.outcome_at_place other (place_of table host service)) (row_law host service)

  -- ---- comments

  comments_known : AllByRecursion (λ (one : Comment). IsKnown table one.object) (comments_at table gateway.records moment)
  comments_known =
      each_filter (λ (one : Comment). IsKnown table one.object) (λ (one : Comment). outlives (is_live_after table history moment) one.source)
      (comments_of 1 (comment_events table history))
      (comments_each table (IsKnown table) (object_known table) (host_services_known table) history)

  abbrev comment_shown : Comment → CommentView
  comment_shown one = shown_comment (comment_row table gateway.records one)

  comment_law : (kind : Kind) (id : ℕ)
      → outcome_of_field kind NoSuchComment (comment_field id page.comments)
      ≡ as_shown (meaning.outcome_of_id kind NoSuchComment (meaning.object_of_comment id (comments_at table gateway.records moment)))
  comment_law kind id =
      let comments = comments_at table gateway.records moment in
      ap (λ (rows : List CommentView). outcome_of_field kind NoSuchComment (comment_field id rows)) (map_map (comment_row table gateway.records) shown_comment comments)
      ∙ row_found table kind NoSuchComment refl id comment_shown (λ (row : CommentView). row.id) (λ (row : CommentView). row.service)
      (λ (one : Comment). one.id) (λ (one : Comment). one.object) (λ one. refl) (λ one known. kind_is one.object known) comments comments_known

  -- ---- downtime entries

  abbrev made_entry : Scheduled → Entry
  made_entry one = record { scheduled = one; transition = transition_of events 1 one; deleted = was_deleted events 1 one.id }

  entries_known : AllByRecursion (λ (one : Entry). IsKnown table one.scheduled.object) entries
  entries_known =
      each_map (λ (one : Scheduled). IsKnown table one.object) (λ (one : Entry). IsKnown table one.scheduled.object) made_entry (λ one known. known)
      (scheduled_in 1 events) (scheduled_each table (IsKnown table) (object_known table) (host_services_known table) history)

  entries_rise : Ascend (λ (one : Entry). one.scheduled.id) 0 (reverse entries)
  entries_rise =
      subst (Ascend (λ (one : Entry). one.scheduled.id) 0) (sym (reversed_map made_entry (scheduled_in 1 events)))
      (ascend_map (λ (one : Scheduled). one.id) (λ (one : Entry). one.scheduled.id) made_entry (λ one. refl) 0 (reverse (scheduled_in 1 events)) (scheduled_ascend events))

  abbrev is_alive : Entry → Bool
  is_alive one = is_live_after table history moment one.scheduled.id

  abbrev lives : List Entry
  lives = filter is_alive (reverse entries)

  lives_known : AllByRecursion (λ (one : Entry). IsKnown table one.scheduled.object) lives
  lives_known =
      let known : Entry → Type 0 = λ one. IsKnown table one.scheduled.object in
      each_filter known is_alive (reverse entries) (each_reverse known entries entries_known)

  abbrev live_entry : Entry → LiveEntry
  live_entry one = record { scheduled = one.scheduled; begin = begin_of 1 events one.scheduled.id }

  abbrev entry_shown : Entry → DowntimeView
  entry_shown one = shown_downtime (downtime_row table gateway.records moment (live_entry one))

  downtimes_are : page.downtimes ≡ map entry_shown lives
  downtimes_are =
      ap (map shown_downtime) (map_map live_entry (downtime_row table gateway.records moment) lives)
      ∙ map_map (λ one. downtime_row table gateway.records moment (live_entry one)) shown_downtime lives

  entry_found : (id : ℕ) → find (λ (one : Entry). one.scheduled.id == id) lives
      ≡ find (λ (one : Entry). (one.scheduled.id == id) && is_live_after table history moment one.scheduled.id) entries
  entry_found id =
      let test : Entry → Bool = λ one. (one.scheduled.id == id) && is_live_after table history moment one.scheduled.id in
      find_filter (λ (one : Entry). one.scheduled.id) is_alive id (reverse entries)
      ∙ sym (find_reverse (λ (one : Entry). one.scheduled.id) is_alive id 0 (reverse entries) entries_rise)
      ∙ ap (find test) (reverse-reverse entries)

  downtime_law : (kind : Kind) (id : ℕ)
      → outcome_of_field kind NoSuchDowntime (downtime_field id page.downtimes)
      ≡ as_shown (meaning.outcome_of_id kind NoSuchDowntime (meaning.object_of_entry (is_live_after table history moment) id entries))
  downtime_law kind id =
      ap (λ (rows : List DowntimeView). outcome_of_field kind NoSuchDowntime (downtime_field id rows)) downtimes_are
      ∙ row_found table kind NoSuchDowntime refl id entry_shown (λ (row : DowntimeView). row.id) (λ (row : DowntimeView). row.service)
      (λ (one : Entry). one.scheduled.id) (λ (one : Entry). one.scheduled.object) (λ one. refl) (λ one known. kind_is one.scheduled.object known) lives lives_known
      ∙ ap (λ (found : Option Entry). as_shown (meaning.outcome_of_id kind NoSuchDowntime (option_map (λ (one : Entry). one.scheduled.object) found))) (entry_found id)

  trigger_law : (id : ℕ) → is_entry page.downtimes id ≡ is_live_after table history moment id
  trigger_law id =
      ap (λ (rows : List DowntimeView). is_entry rows id) downtimes_are
      ∙ has_map id entry_shown (λ (row : DowntimeView). row.id) (λ (one : Entry). one.scheduled.id) (λ one. refl) lives
      ∙ has_kept (λ (one : Entry). one.scheduled.id) id (is_live_after table history moment) (reverse entries)
      ∙ ap (λ (there : Bool). is_live_after table history moment id && there) (has_reverse (λ (one : Entry). one.scheduled.id) id entries)
      ∙ live_there entries moment.0 id

  abbrev window : Span → Outcome
  window span = meaning.outcome_of_window (is_live_after table history moment) moment span.starts span.ends span.trigger

  span_law : (span : Span) → outcome_of_span page span ≡ as_shown (window span)
  span_law span =
      ap (λ (alive : Bool). if nat_le span.ends.0 span.starts.0 then BadWindow else (if nat_le span.ends.0 moment.0 then WindowPast else (if (span.trigger == 0) || alive then Accepted else NoSuchTrigger)))
      (trigger_law span.trigger)
      ∙ window_shown (nat_le span.ends.0 span.starts.0) (nat_le span.ends.0 moment.0) ((span.trigger == 0) || is_live_after table history moment span.trigger)

  -- ---- commands

  deed_law : (deed : Deed) (place : ℕ) (line : ObjectLine)
      → outcome_of_deed page deed (row_at table gateway.opening gateway.records moment place line)
      ≡ as_shown (meaning.outcome_of_deed table history moment deed place)
  deed_law (deeds.Result code) place line = passive_shown (is_passive place (object_events table history))
  deed_law (deeds.Acknowledge sticky persistent) place line =
      accepted_or (is_problem (state_of place (object_events table history))) NoProblem refl
  deed_law deeds.RemoveAck place line =
      ap (λ (test : Bool). if test then Accepted else NotAcknowledged) (acknowledged_shown (acknowledgement_of place (object_events table history)))
      ∙ accepted_or (is_some (acknowledgement_of place (object_events table history))) NotAcknowledged refl
  deed_law (deeds.Schedule span) place line = span_law span
  deed_law _ place line = refl

  act_law : (act : Act) → outcome_of_act page act ≡ as_shown (outcome_at table history moment act)
  act_law (acts.On host service deed) =
      object_law (outcome_of_deed page deed) (meaning.outcome_of_deed table history moment deed) (deed_law deed) host service
  act_law (acts.ScheduleServices host span) =
      object_law (λ row. if has_services page host then outcome_of_span page span else NoServices)
      (λ place. meaning.outcome_of_services (services_of table host) (window span))
      (λ place line.
      services_judged table gateway.opening gateway.records moment host (outcome_of_span page span) 0 table named_all
      ∙ services_shown (services_of table host) (outcome_of_span page span) (window span) (span_law span)) host None
  act_law (acts.DelComment kind id) = comment_law kind id
  act_law (acts.DelDowntime kind id) = downtime_law kind id
  act_law acts.Shutdown = refl

  pub outcome_law : (body : Body) → outcome_on page body ≡ as_shown (outcome_after table gateway.records moment body)
  outcome_law body = act_law (act_of body)

pub is_foreseen : {E : Type 0} (result : Result Outcome E) (view : PageView) (body : Body) → IfOk result (λ outcome. outcome ≡ outcome_on view body)
    → (gateway : GatewayView) → IsGateway gateway → view ≡ shown_board (published_board gateway)
    → IfOk result (λ outcome. outcome ≡ as_shown (outcome_after gateway.table gateway.records gateway.moment body))
is_foreseen (Err fault) view body found gateway is same = tt
is_foreseen (Ok outcome) view body found gateway is same =
    found ∙ ap (λ (shown : PageView). outcome_on shown body) same ∙ outcome_law gateway is body
