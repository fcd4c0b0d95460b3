-- Comments and downtime entries are of objects of the table, and results leave states of their objects' kinds.
use Rattle.std.proofs.Common.{◌≡◌, ℕ, ◌<◌, ◌==◌, Bool, true, false, List, [], ◌∷◌, length, Option, Some, None, refl, sym, ap, subst, ◌∙◌, arith}
use Rattle.std.specs.Prelude.{ℤ, pos, negsuc, option_map, slice_get, IfSome, if◌then◌else◌}
use Rattle.std.specs.List.{AllByRecursion}
use Rattle.std.specs.Option.{option_and_then}
use Rattle.std.proofs.lemmas.Bool.{eqb-true}
use Rattle.std.proofs.lemmas.List.Elements.{recursion_from_All}
use Rattle.gate_model.specs.declared.record.Moment.{Moment}
use Rattle.gate_model.specs.declared.object.Kind.{Kind}
use Rattle.gate_model.specs.declared.object.Kind.TheVariants.{Host, Service}
use Rattle.gate_model.specs.declared.object.ObjectId.{ObjectId}
use Rattle.gate_model.specs.declared.object.ObjectLine.{ObjectLine}
use Rattle.gate_model.specs.declared.state.State.{State}
use Rattle.gate_model.specs.declared.state.State.TheVariants as states
use Rattle.gate_model.specs.declared.act.Deed.{Deed}
use Rattle.gate_model.specs.declared.act.Deed.TheVariants as deeds
use Rattle.gate_model.specs.declared.act.Act.{Act}
use Rattle.gate_model.specs.declared.act.Act.TheVariants as acts
use Rattle.gate_model.specs.Act.{act_of}
use Rattle.gate_model.specs.declared.status.ObjectEvent.{ObjectEvent}
use Rattle.gate_model.specs.declared.status.ObjectEvent.TheVariants as object
use Rattle.gate_model.specs.declared.status.CheckResult.{CheckResult}
use Rattle.gate_model.specs.declared.comments.Comment.{Comment}
use Rattle.gate_model.specs.declared.downtime.Scheduled.{Scheduled}
use Rattle.gate_model.specs.Record.{is_accepted}
use Rattle.gate_model.specs.State.{state_of_code}
use Rattle.gate_model.specs.Status.{newest, check_result_of, results_of, last_result, state_left_by}
use Rattle.gate_model.specs.Comments.{comments_left}
use Rattle.gate_model.specs.Downtime.{scheduled_in}
use Rattle.gate_model.specs.Table.{is_line_of, object_kind, object_at, object_of, place_of, services_of}
use Rattle.gate_model.specs.Meaning.{Judged, object_event_of_deed, object_event_of, object_event, object_events, downtime_events, comment_events}
use Rattle.gate_model.proofs.Lists.{position_from-within}
use Rattle.gate_table.proofs.ServiceSteps.{services-within}
use Rattle.gate_lines.specs.Lines.{last_moment}
use Rattle.status_reading.specs.RowFaults.{is_state_of}
use Rattle.status_reading.proofs.EachSteps.{each_filter_map}
use Rattle.status_reading.proofs.BareSteps.{found_line}
use Rattle.status_reading.proofs.ObjectSteps.{comments_each, scheduled_each}

module _ (table : List ObjectLine) where
  -- the object is one of the table
  abbrev pub IsPlaced : ObjectId → Type 0
  IsPlaced found = found.place < length table

  placed : (host : List ℕ) (service : Option (List ℕ)) (found : Option ℕ) → place_of table host service ≡ found
      → IfSome (option_map (object_at (object_kind service)) found) IsPlaced
  placed host service None is = tt
  placed host service (Some place) is = let within = position_from-within (is_line_of host service) 0 table place is in omega (arith, within.1)

  object_placed : (host : List ℕ) (service : Option (List ℕ)) → IfSome (object_of table host service) IsPlaced
  object_placed host service = placed host service (place_of table host service) refl

  services_placed : (host : List ℕ) → AllByRecursion IsPlaced (services_of table host)
  services_placed host = recursion_from_All IsPlaced (services_of table host) (services-within table host)

  pub comments_placed : (judgements : List Judged)
      → AllByRecursion (λ (one : Comment). IsPlaced one.object) (comments_left 1 [] (comment_events table judgements))
  comments_placed = comments_each table IsPlaced object_placed services_placed

  pub scheduled_placed : (judgements : List Judged)
      → AllByRecursion (λ (one : Scheduled). IsPlaced one.object) (scheduled_in 1 (downtime_events table judgements))
  scheduled_placed = scheduled_each table IsPlaced object_placed services_placed

  -- ---- states

  service_fits : (zero one two : Bool) (last : ℕ)
      → is_state_of (Some last) Service (if zero then states.Ok else (if one then states.Warning else (if two then states.Critical else states.Unknown))) ≡ true
  service_fits true one two last = refl
  service_fits false true two last = refl
  service_fits false false true last = refl
  service_fits false false false last = refl

  host_fits : (zero one two : Bool) (last : ℕ)
      → is_state_of (Some last) Host (if zero then states.Up else (if one then states.Down else (if two then states.Unreachable else states.Down))) ≡ true
  host_fits true one two last = refl
  host_fits false true two last = refl
  host_fits false false true last = refl
  host_fits false false false last = refl

  code_state : (kind : Kind) (code : ℤ) (last : ℕ) → is_state_of (Some last) kind (state_of_code kind code) ≡ true
  code_state Host (pos code) last = host_fits (code == 0) (code == 1) (code == 2) last
  code_state Host (negsuc below) last = refl
  code_state Service (pos code) last = service_fits (code == 0) (code == 1) (code == 2) last
  code_state Service (negsuc below) last = refl

  -- the state is one of the kind of the object at this place
  abbrev HasKind : ℕ → State → Type 0
  HasKind place state = (line : ObjectLine) → slice_get table place ≡ Some line
      → (last : ℕ) → is_state_of (Some last) (object_kind line.service) state ≡ true

  -- a result leaves such a state
  abbrev LeavesKind : ObjectEvent → Type 0
  LeavesKind (object.Result place state moment log_index) = HasKind place state
  LeavesKind _ = Unit {0}

  result_kind : (moment : Moment) (log_index : ℕ) (host : List ℕ) (service : Option (List ℕ)) (code : ℤ) (place : ℕ)
      → place_of table host service ≡ Some place → HasKind place (state_of_code (object_kind service) code)
  result_kind moment log_index host service code place is = λ line here last.
      let found = found_line table host service place is in
      let same : found.0 ≡ line = same_line found.0 line (sym found.1 ∙ here) in
      let services : line.service ≡ service = sym (ap (λ (one : ObjectLine). one.service) same) ∙ found.2 in
      ap (λ name. is_state_of (Some last) (object_kind name) (state_of_code (object_kind service) code)) services
      ∙ code_state (object_kind service) code last
    where
      same_line : (one other : ObjectLine) → ◌≡◌ {A = Option ObjectLine} (Some one) (Some other) → one ≡ other
      same_line one other is = cc

  deed_kind : (moment : Moment) (log_index : ℕ) (host : List ℕ) (service : Option (List ℕ)) (deed : Deed) (place : ℕ)
      → place_of table host service ≡ Some place → IfSome (object_event_of_deed moment log_index deed (object_at (object_kind service) place)) LeavesKind
  deed_kind moment log_index host service (deeds.Result code) place is = result_kind moment log_index host service code place is
  deed_kind moment log_index host service deed place is = tt

  found_kind : (moment : Moment) (log_index : ℕ) (host : List ℕ) (service : Option (List ℕ)) (deed : Deed) (found : Option ℕ)
      → place_of table host service ≡ found
      → IfSome (option_and_then (object_event_of_deed moment log_index deed) (option_map (object_at (object_kind service)) found)) LeavesKind
  found_kind moment log_index host service deed None is = tt
  found_kind moment log_index host service deed (Some place) is = deed_kind moment log_index host service deed place is

  event_kind : (moment : Moment) (log_index : ℕ) (act : Act) → IfSome (object_event_of table moment log_index act) LeavesKind
  event_kind moment log_index (acts.On host service deed) = found_kind moment log_index host service deed (place_of table host service) refl
  event_kind moment log_index act = tt

  accepted_kind : (accepted : Bool) (event : Option ObjectEvent) → IfSome event LeavesKind → IfSome (if accepted then event else None) LeavesKind
  accepted_kind true event kind = kind
  accepted_kind false event kind = tt

  none_needed : (judgements : List Judged) → AllByRecursion (λ (judgement : Judged). Unit {0}) judgements
  none_needed [] = tt
  none_needed (judgement ∷ judgements) = (tt, none_needed judgements)

  events_kind : (judgements : List Judged) → AllByRecursion LeavesKind (object_events table judgements)
  events_kind judgements =
      each_filter_map (λ (judgement : Judged). Unit {0}) LeavesKind (object_event table)
      (λ judgement none.
      accepted_kind (is_accepted judgement.outcome) _ (event_kind judgement.applied.moment judgement.log_index (act_of judgement.applied.item.body)))
      judgements (none_needed judgements)

  made_here : (place other : ℕ) (state : State) (moment : Moment) (log_index : ℕ) (here : Bool) → (other == place) ≡ here → HasKind other state
      → IfSome (if here then Some (record { state = state; moment = moment; log_index = log_index }) else None)
      (λ (last : CheckResult). HasKind place last.state)
  made_here place other state moment log_index true is kind = subst (λ (at : ℕ). HasKind at state) (eqb-true other place is) kind
  made_here place other state moment log_index false is kind = tt

  last_kind : (place : ℕ) (event : ObjectEvent) → LeavesKind event → IfSome (check_result_of place event) (λ (last : CheckResult). HasKind place last.state)
  last_kind place (object.Result other state moment log_index) kind = made_here place other state moment log_index (other == place) refl kind
  last_kind place _ kind = tt

  newest_kind : (place : ℕ) (line : ObjectLine) (results : List CheckResult) → slice_get table place ≡ Some line
      → AllByRecursion (λ (last : CheckResult). HasKind place last.state) results
      → is_state_of (last_moment (newest results)) (object_kind line.service) (state_left_by (newest results)) ≡ true
  newest_kind place line [] here all = refl
  newest_kind place line (last ∷ results) here all = all.0 line here last.moment.0

  -- an object has a state of its kind
  pub state_fits : (place : ℕ) (line : ObjectLine) (judgements : List Judged) → slice_get table place ≡ Some line
      → is_state_of (last_moment (last_result place (object_events table judgements))) (object_kind line.service)
      (state_left_by (last_result place (object_events table judgements))) ≡ true
  state_fits place line judgements here =
      newest_kind place line (results_of place (object_events table judgements)) here
      (each_filter_map LeavesKind (λ (last : CheckResult). HasKind place last.state) (check_result_of place) (last_kind place)
      (object_events table judgements) (events_kind judgements))
