-- The page of a gateway has no row with a fault.
use Rattle.std.proofs.Common.{◌≡◌, ℕ, zero, suc, ◌+◌, ◌<◌, ◌==◌, ◌&&◌, Bool, true, false, not, List, [], ◌∷◌, ◌++◌, map, filter, length, reverse, Option, Some, None, refl, sym, ap, subst, ◌∙◌, arith}
use Rattle.std.specs.Prelude.{slice_get, is_some, if◌then◌else◌}
use Rattle.std.specs.List.{AllByRecursion, enumerate_from}
use Rattle.std.proofs.lemmas.Bool.{eq-eqb}
use Rattle.std.proofs.lemmas.List.{map-append, reverse-append}
use Rattle.gate_model.specs.declared.object.ObjectLine.{ObjectLine}
use Rattle.gate_model.specs.declared.comments.Comment.{Comment}
use Rattle.gate_model.specs.declared.downtime.Scheduled.{Scheduled}
use Rattle.gate_model.specs.declared.downtime.Entry.{Entry}
use Rattle.gate_model.specs.declared.downtime.DowntimeEvent.{DowntimeEvent}
use Rattle.gate_model.specs.Escaping.{escaped}
use Rattle.gate_model.specs.Comments.{comments_of}
use Rattle.gate_model.specs.Downtime.{scheduled_in, entries_of, begin_in, begin_of, is_live, is_live_in, is_active_in, transition_of, was_deleted, is_begun_by}
use Rattle.gate_model.specs.Table.{place_of, object_kind}
use Rattle.gate_table.specs.Faults.{IsFaultless}
use Rattle.gate_model.proofs.Lists.{none_is_not_some}
use Rattle.gate_model.specs.Meaning.{Judged, downtime_events, comment_events, outlives, is_live_after, history_of, comments_at, depth_at, state_at, last_result_at, LiveEntry, downtimes_at}
use Rattle.gate_pages.specs.Rows.{host_of, service_of, object_row, comment_row, comment_rows, downtime_row, downtime_rows}
use Rattle.gate_lines.specs.Lines.{service_text, last_moment}
use Rattle.status_reading.specs.declared.row_faults.RowFault.{RowFault}
use Rattle.status_reading.specs.declared.row_faults.RowFault.TheVariants.{WrongState, WrongDepth}
use Rattle.status_reading.specs.Rows.{ObjectView, DowntimeView, PageView}
use Rattle.status_reading.specs.RowFaults.{service_name, line_of, table_of, place_on, is_state_of, is_place, active_at, object_fault, NamedView, comment_names, downtime_names, id_faults, row_faults, first_from, IsSound}
use Rattle.status_reading.specs.Board.{shown_object, shown_comment, shown_downtime, shown_board}
use Rattle.status_reading.specs.Gateway.{GatewayView, published_board, IsGateway}
use Rattle.status_reading.proofs.EachSteps.{each_append, each_filter, each_map, each_reverse, each_weaker}
use Rattle.status_reading.proofs.PlainLaws.{plain_escaped}
use Rattle.status_reading.proofs.BareSteps.{bare, service_again, line_length, bare_place, bare_faultless, own_place}
use Rattle.status_reading.proofs.IdSteps.{Ascend, ascend_map, ascend_filter, comments_ascend, scheduled_ascend, IsOnTable, ids_sound}
use Rattle.status_reading.proofs.PlacedSteps.{comments_placed, scheduled_placed, state_fits}
use Rattle.status_reading.proofs.DepthSteps.{count_reverse, count_filter, count_agree, count_map, begun_shown, and_turned}
use Rattle.status_reading.proofs.SoundSteps.{none-there}

-- what holds of each line at its place
abbrev StandAt : List ObjectLine → ℕ → List ObjectLine → Type 0
StandAt table place lines = (index : ℕ) (line : ObjectLine) → slice_get lines index ≡ Some line → slice_get table (place + index) ≡ Some line

next_stand : (table : List ObjectLine) (place : ℕ) (line : ObjectLine) (lines : List ObjectLine) → StandAt table place (line ∷ lines) → StandAt table (place + 1) lines
next_stand table place line lines stand =
    λ index one is. let at : place + suc index ≡ place + 1 + index = omega arith in
    subst (λ (other : ℕ). slice_get table other ≡ Some one) at (stand (suc index) one is)

whole_stands : (table : List ObjectLine) → StandAt table 0 table
whole_stands table =
    λ index line here. let at : index ≡ 0 + index = omega arith in subst (λ (other : ℕ). slice_get table other ≡ Some line) at here

first_stands : (table : List ObjectLine) (place : ℕ) (line : ObjectLine) (lines : List ObjectLine) → StandAt table place (line ∷ lines) → slice_get table place ≡ Some line
first_stands table place line lines stand =
    let at : place + 0 ≡ place = omega arith in
    subst (λ (other : ℕ). slice_get table other ≡ Some line) at (stand 0 line refl)

fault_none : (fits : Bool) (depth active : ℕ) → fits ≡ true → depth ≡ active
    → (if not fits then Some WrongState else (if depth == active then None else Some WrongDepth)) ≡ None
fault_none true depth active fits same = ap (λ (equal : Bool). if equal then None else Some WrongDepth) (eq-eqb depth active same)
fault_none false depth active fits same = cc

mapped_reverse : {A B : Type 0} (made : A → B) (list : List A) → reverse (map made list) ≡ map made (reverse list)
mapped_reverse made [] = refl
mapped_reverse made (one ∷ list) =
    reverse-append (made one ∷ []) (map made list)
    ∙ ap (λ front. front ++ made one ∷ []) (mapped_reverse made list)
    ∙ sym (map-append made (reverse list) (one ∷ []))
    ∙ ap (map made) (sym (reverse-append (one ∷ []) list))

module _ (gateway : GatewayView) (is : IsGateway gateway) where
  abbrev table : List ObjectLine
  table = gateway.table

  abbrev history : List Judged
  history = history_of table gateway.records

  abbrev events : List DowntimeEvent
  events = downtime_events table history

  abbrev entries : List Entry
  entries = entries_of 1 events

  abbrev page : PageView
  page = shown_board (published_board gateway)

  -- the table that its page shows
  abbrev shown : List ObjectLine
  shown = map bare table

  -- ---- names

  names_found : (place : ℕ) (line : ObjectLine) → slice_get table place ≡ Some line
      → place_on shown (escaped line.host) (service_text line.service) ≡ Some place
  names_found place line here =
      ap (λ (host : List ℕ). place_of shown host (service_name (service_text line.service))) (plain_escaped line.host)
      ∙ ap (place_of shown line.host) (service_again line.service (line_length table place line is.table here))
      ∙ bare_place table line.host line.service
      ∙ own_place table place line is.table here

  found_names : (place : ℕ) (found : Option ObjectLine) → slice_get table place ≡ found → place < length table
      → place_on shown (escaped (host_of found)) (service_text (service_of found)) ≡ Some place
  found_names place (Some line) here within = names_found place line here
  found_names place None here within = absurd (none_within table place here within)
    where
      none_within : {A : Type 0} (list : List A) (index : ℕ) → slice_get list index ≡ None → index < length list → ⊥
      none_within [] index none within = omega (arith, within)
      none_within (first ∷ list) zero none within = none_is_not_some first (sym none)
      none_within (first ∷ list) (suc index) none within = none_within list index none (omega (arith, within))

  -- the object at a place of the table is found by the names that are shown of it
  placed_names : (place : ℕ) → place < length table
      → place_on shown (escaped (host_of (slice_get table place))) (service_text (service_of (slice_get table place))) ≡ Some place
  placed_names place within = found_names place (slice_get table place) refl within

  same_line : (place at : ℕ) (line : ObjectLine) → slice_get table place ≡ Some line
      → line_of (shown_object (object_row table gateway.opening gateway.records gateway.moment (at, line))) ≡ bare line
  same_line place at line here =
      let host = plain_escaped line.host in
      let service = service_again line.service (line_length table place line is.table here) in
      λ i. record { host = host i; service = service i; threshold = 0 }

  same_lines : (place : ℕ) (lines : List ObjectLine) → StandAt table place lines
      → map line_of (map shown_object (map (object_row table gateway.opening gateway.records gateway.moment) (enumerate_from place lines))) ≡ map bare lines
  same_lines place [] stand = refl
  same_lines place (line ∷ lines) stand =
      let first = same_line place place line (first_stands table place line lines stand) in
      let rest = same_lines (place + 1) lines (next_stand table place line lines stand) in
      λ i. first i ∷ rest i

  table_is : table_of page ≡ shown
  table_is = same_lines 0 table (whole_stands table)

  -- ---- depth

  entries_placed : AllByRecursion (λ (one : Entry). one.scheduled.object.place < length table) entries
  entries_placed =
      each_map (λ (one : Scheduled). one.object.place < length table) (λ (one : Entry). one.scheduled.object.place < length table)
      (λ (one : Scheduled). record { scheduled = one; transition = transition_of events 1 one; deleted = was_deleted events 1 one.id })
      (λ one placed. placed) (scheduled_in 1 events) (scheduled_placed table history)

  abbrev counts_at : ℕ → DowntimeView → Bool
  counts_at place row = is_some row.begin && is_place place (place_on shown row.host row.service)

  abbrev live_entry : Entry → LiveEntry
  live_entry one = record { scheduled = one.scheduled; begin = begin_of 1 events one.scheduled.id }

  abbrev entry_row : Entry → DowntimeView
  entry_row one = shown_downtime (downtime_row table gateway.records gateway.moment (live_entry one))

  entry_counts : (place : ℕ) (one : Entry) → one.scheduled.object.place < length table
      → (is_live 1 events gateway.moment one.scheduled.id && counts_at place (entry_row one))
      ≡ ((one.scheduled.object.place == place) && is_active_in entries gateway.moment.0 one.scheduled.id)
  entry_counts place one within =
      let live = is_live_in entries gateway.moment.0 one.scheduled.id in
      let begin = begin_in entries one.scheduled.id in
      ap (λ (begun : Bool). live && (begun && is_place place (place_on shown (entry_row one).host (entry_row one).service))) (begun_shown gateway.moment begin)
      ∙ ap (λ (found : Option ℕ). live && (is_begun_by gateway.moment.0 begin && is_place place found)) (placed_names one.scheduled.object.place within)
      ∙ and_turned live (is_begun_by gateway.moment.0 begin) (one.scheduled.object.place == place)

  depth_is : (place : ℕ) → depth_at table gateway.records gateway.moment place ≡ active_at shown page.downtimes place
  depth_is place =
      let live : Entry → Bool = λ one. is_live 1 events gateway.moment one.scheduled.id in
      let counted : Entry → Bool = λ one. live one && counts_at place (entry_row one) in
      let in_depth : Entry → Bool = λ one. (one.scheduled.object.place == place) && is_active_in entries gateway.moment.0 one.scheduled.id in
      sym
      (count_map (counts_at place) shown_downtime (downtime_rows table gateway.records gateway.moment)
      ∙ count_map (λ row. counts_at place (shown_downtime row)) (downtime_row table gateway.records gateway.moment) (downtimes_at table gateway.records gateway.moment)
      ∙ count_map (λ one. counts_at place (shown_downtime (downtime_row table gateway.records gateway.moment one))) live_entry (filter live (reverse entries))
      ∙ count_filter (λ one. counts_at place (entry_row one)) live (reverse entries)
      ∙ count_reverse counted entries
      ∙ count_agree counted in_depth entries (each_weaker (λ (one : Entry). one.scheduled.object.place < length table) (λ one. counted one ≡ in_depth one) (entry_counts place) entries entries_placed))

  -- ---- objects

  state_is : (place : ℕ) (line : ObjectLine) → slice_get table place ≡ Some line
      → is_state_of (last_moment (last_result_at table gateway.records place)) (object_kind (service_name (service_text line.service))) (state_at table gateway.records place) ≡ true
  state_is place line here =
      ap (λ (service : Option (List ℕ)). is_state_of (last_moment (last_result_at table gateway.records place)) (object_kind service) (state_at table gateway.records place))
      (service_again line.service (line_length table place line is.table here))
      ∙ state_fits table place line history here

  abbrev fault_of : ℕ × ObjectView → Option RowFault
  fault_of one = object_fault (active_at shown page.downtimes one.0) one.1

  objects_sound : (place : ℕ) (lines : List ObjectLine) → StandAt table place lines
      → AllByRecursion (λ fault. fault ≡ None)
      (map fault_of (enumerate_from place (map shown_object (map (object_row table gateway.opening gateway.records gateway.moment) (enumerate_from place lines)))))
  objects_sound place [] stand = tt
  objects_sound place (line ∷ lines) stand = (
    fault_none _ (depth_at table gateway.records gateway.moment place) (active_at shown page.downtimes place)
        (state_is place line (first_stands table place line lines stand)) (depth_is place),
    objects_sound (place + 1) lines (next_stand table place line lines stand),
  )

  -- ---- comments

  comments_there : AllByRecursion (λ (one : Comment). one.object.place < length table) (comments_at table gateway.records gateway.moment)
  comments_there =
      each_filter (λ (one : Comment). one.object.place < length table)
      (λ (one : Comment). outlives (is_live_after table history gateway.moment) one.source)
      (comments_of 1 (comment_events table history)) (comments_placed table history)

  comments_rise : Ascend (λ (one : Comment). one.id) 0 (comments_at table gateway.records gateway.moment)
  comments_rise =
      ascend_filter (λ (one : Comment). one.id)
      (λ (one : Comment). outlives (is_live_after table history gateway.moment) one.source) 0
      (comments_of 1 (comment_events table history)) (comments_ascend 1 0 [] (comment_events table history) (omega arith))

  comments_sound : AllByRecursion (λ fault. fault ≡ None) (id_faults shown 0 (map comment_names page.comments))
  comments_sound =
      let rows = comments_at table gateway.records gateway.moment in
      ids_sound shown 0 (map comment_names page.comments)
      (ascend_map (λ row. row.id) (λ (row : NamedView). row.id) comment_names (λ row. refl) 0 page.comments
      (ascend_map (λ row. row.comment.id) (λ row. row.id) shown_comment (λ row. refl) 0 (comment_rows table gateway.records gateway.moment)
      (ascend_map (λ (one : Comment). one.id) (λ row. row.comment.id) (comment_row table gateway.records) (λ one. refl) 0 rows comments_rise)))
      (each_map (λ row. IsOnTable shown (comment_names row)) (IsOnTable shown) comment_names (λ row on. on) page.comments
      (each_map (λ row. IsOnTable shown (comment_names (shown_comment row))) (λ row. IsOnTable shown (comment_names row)) shown_comment (λ row on. on) (comment_rows table gateway.records gateway.moment)
      (each_map (λ (one : Comment). one.object.place < length table) (λ row. IsOnTable shown (comment_names (shown_comment row))) (comment_row table gateway.records)
      (λ one within. record { place = one.object.place; found = placed_names one.object.place within }) rows comments_there)))

  -- ---- downtime entries

  entries_rise : Ascend (λ (one : Entry). one.scheduled.id) 0 (reverse entries)
  entries_rise =
      let made : Scheduled → Entry = λ one. record { scheduled = one; transition = transition_of events 1 one; deleted = was_deleted events 1 one.id } in
      subst (Ascend (λ (one : Entry). one.scheduled.id) 0) (sym (mapped_reverse made (scheduled_in 1 events)))
      (ascend_map (λ (one : Scheduled). one.id) (λ (one : Entry). one.scheduled.id) made (λ one. refl) 0 (reverse (scheduled_in 1 events)) (scheduled_ascend events))

  abbrev live_entries : List Entry
  live_entries = filter (λ (one : Entry). is_live 1 events gateway.moment one.scheduled.id) (reverse entries)

  live_rise : Ascend (λ (one : Entry). one.scheduled.id) 0 live_entries
  live_rise = ascend_filter (λ (one : Entry). one.scheduled.id) (λ (one : Entry). is_live 1 events gateway.moment one.scheduled.id) 0 (reverse entries) entries_rise

  live_there : AllByRecursion (λ (one : Entry). one.scheduled.object.place < length table) live_entries
  live_there =
      let placed : Entry → Type 0 = λ one. one.scheduled.object.place < length table in
      each_filter placed (λ (one : Entry). is_live 1 events gateway.moment one.scheduled.id) (reverse entries)
      (each_reverse placed entries entries_placed)

  downtimes_sound : AllByRecursion (λ fault. fault ≡ None) (id_faults shown 0 (map downtime_names page.downtimes))
  downtimes_sound =
      let lives = downtimes_at table gateway.records gateway.moment in
      let rows = downtime_rows table gateway.records gateway.moment in
      ids_sound shown 0 (map downtime_names page.downtimes)
      (ascend_map (λ row. row.id) (λ (row : NamedView). row.id) downtime_names (λ row. refl) 0 page.downtimes
      (ascend_map (λ row. row.scheduled.id) (λ row. row.id) shown_downtime (λ row. refl) 0 rows
      (ascend_map (λ (one : LiveEntry). one.scheduled.id) (λ row. row.scheduled.id) (downtime_row table gateway.records gateway.moment) (λ one. refl) 0 lives
      (ascend_map (λ (one : Entry). one.scheduled.id) (λ (one : LiveEntry). one.scheduled.id) live_entry (λ one. refl) 0 live_entries live_rise))))
      (each_map (λ row. IsOnTable shown (downtime_names row)) (IsOnTable shown) downtime_names (λ row on. on) page.downtimes
      (each_map (λ row. IsOnTable shown (downtime_names (shown_downtime row))) (λ row. IsOnTable shown (downtime_names row)) shown_downtime (λ row on. on) rows
      (each_map (λ one. IsOnTable shown (downtime_names (shown_downtime (downtime_row table gateway.records gateway.moment one)))) (λ row. IsOnTable shown (downtime_names (shown_downtime row))) (downtime_row table gateway.records gateway.moment) (λ one on. on) lives
      (each_map (λ (one : Entry). one.scheduled.object.place < length table)
      (λ one. IsOnTable shown (downtime_names (shown_downtime (downtime_row table gateway.records gateway.moment one)))) live_entry
      (λ one within. record { place = one.scheduled.object.place; found = placed_names one.scheduled.object.place within }) live_entries live_there))))

  -- ---- the page

  rows_sound : AllByRecursion (λ fault. fault ≡ None) (row_faults shown page)
  rows_sound =
      each_append (λ fault. fault ≡ None) _ _
      (each_append (λ fault. fault ≡ None) _ _ (objects_sound 0 table (whole_stands table)) comments_sound)
      downtimes_sound

  pub gateway_sound : IsSound page
  gateway_sound = record {
    table = subst IsFaultless (sym table_is) (bare_faultless table is.table);
    rows = subst (λ (lines : List ObjectLine). first_from 2 (row_faults lines page) ≡ None) (sym table_is) (none-there 2 (row_faults shown page) rows_sound);
  }
