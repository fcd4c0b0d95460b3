-- A gateway that applies such commands at one moment accepts each, but maybe an acknowledgement.
use Rattle.std.proofs.Common.{◌≡◌, ℕ, ℤ, ◌+◌, ◌<◌, ◌≤◌, Bool, true, false, cond, List, [], ◌∷◌, ◌++◌, length, reverse, max, refl, sym, ap, ◌∙◌, subst, arith, append_assoc}
use Rattle.std.specs.Prelude.{not, ◌&&◌, ◌||◌, ◌==◌, nat_lt, nat_le, Option, Some, None, is_some, option_map, unwrap_or, if◌then◌else◌}
use Rattle.std.specs.Option.{option_to_list, option_and_then}
use Rattle.std.proofs.lemmas.Bool.{or_parts, leb-false}
use Rattle.std.proofs.lemmas.List.{reverse-append, append-nil}
use Rattle.gate_model.specs.declared.record.Moment.{Moment}
use Rattle.gate_model.specs.declared.record.Record.{Record}
use Rattle.gate_model.specs.declared.record.Outcome.{Outcome}
use Rattle.gate_model.specs.declared.record.Outcome.TheVariants.{Accepted, NoSuchHost, NoProblem, PassiveDisabled, BadWindow, WindowPast, NoSuchTrigger}
use Rattle.gate_model.specs.declared.object.ObjectLine.{ObjectLine}
use Rattle.gate_model.specs.declared.object.ObjectId.{ObjectId}
use Rattle.gate_model.specs.declared.downtime.DowntimeEvent.{DowntimeEvent}
use Rattle.gate_model.specs.declared.downtime.DowntimeEvent.TheVariants as downtime
use Rattle.gate_model.specs.declared.status.ObjectEvent.{ObjectEvent}
use Rattle.gate_model.specs.declared.status.ObjectEvent.TheVariants as object
use Rattle.gate_model.specs.declared.state.State.{State}
use Rattle.gate_model.specs.declared.state.State.TheVariants.{Pending}
use Rattle.gate_model.specs.declared.act.Span.{Span}
use Rattle.gate_model.specs.declared.act.Deed.{Deed}
use Rattle.gate_model.specs.declared.act.Deed.TheVariants as deeds
use Rattle.gate_model.specs.declared.act.Act.{Act}
use Rattle.gate_model.specs.declared.act.Act.TheVariants as acts
use Rattle.gate_model.specs.Act.{act_of, span_of, is_sticky, is_persistent}
use Rattle.gate_model.specs.declared.object.Kind.{Kind}
use Rattle.gate_model.specs.declared.submission.Body.{Body}
use Rattle.gate_model.specs.declared.submission.Body.TheVariants as bodies
use Rattle.gate_model.specs.Record.{is_accepted}
use Rattle.gate_model.specs.Status.{is_passive, is_transition, state_of}
use Rattle.gate_model.specs.State.{state_of_code, is_problem}
use Rattle.gate_model.specs.Table.{place_of, object_kind, object_at}
use Rattle.gate_table.specs.Faults.{IsFaultless}
use Rattle.gate_model.specs.Downtime.{scheduled_in}
use Rattle.gate_model.specs.Meaning.{Judged, object_event_of_deed, object_event_of, object_event, object_events, plan_of, downtime_events_of_deed, downtime_events_of, downtime_events, is_live_after, outcome_at_place, outcome_for, outcome_of_window, outcome_at, outcome_after, outcomes_of, judgement_of, judged}
use Rattle.gate_table.proofs.Hosts.{has_object-host}
use Rattle.gate_model.proofs.Lists.{position_from-push}
use Rattle.gate_model.proofs.MeaningSteps.{outcomes_of-append}
use Rattle.gate_model.proofs.ObjectSteps.{state_of-result}
use Rattle.restore_plan.specs.declared.entries.Terms.{Terms}
use Rattle.restore_plan.specs.Entries.{is_over, is_momentary}
use Rattle.restore_plan.specs.Rehearsal.{records_from, first_among, first_refusal}
use Rattle.restore_plan.specs.Acceptance.{is_acknowledgement, accepts_after, AcceptsOthers}
use Rattle.restore_plan.proofs.LiveSteps.{AreTimely, all_live}

-- ---- such commands

abbrev pub IsKnown : List ObjectLine → List ℕ → Option (List ℕ) → Type 0
IsKnown fresh host service = is_some (place_of fresh host service) ≡ true

-- the place is this one
abbrev pub is_at : ℕ → Option ℕ → Bool
is_at place None = false
is_at place (Some found) = found == place

-- the state of the object at this place after a command that is accepted
abbrev pub state_by : List ObjectLine → ℕ → Body → State → State
state_by fresh place (bodies.Result host service code output) state =
    if is_at place (place_of fresh host service) then state_of_code (object_kind service) code else state
state_by fresh place _ state = state

-- the object has a problem, where these are the states
abbrev pub HasProblem : List ObjectLine → (ℕ → State) → List ℕ → Option (List ℕ) → Type 0
HasProblem fresh shown host service =
    IsKnown fresh host service
    × ((place : ℕ) → place_of fresh host service ≡ Some place → is_problem (shown place) ≡ true)

-- commands of which each can be accepted after those before it, which scheduled so many entries and left these states;
-- results come first, and acknowledgements may be sure to be accepted
unfoldable pub IsApt : List ObjectLine → Moment → Bool → (ℕ → State) → Bool → ℕ → List Body → Type 0
IsApt fresh now sure shown others count [] = Unit {0}
IsApt fresh now sure shown others count (bodies.Result host service code output ∷ rest) =
    (others ≡ false) × IsKnown fresh host service
    × IsApt fresh now sure (λ place. state_by fresh place (bodies.Result host service code output) (shown place)) false count rest
IsApt fresh now sure shown others count (bodies.AddComment host service persistent author text ∷ rest) =
    IsKnown fresh host service × IsApt fresh now sure shown true count rest
IsApt fresh now sure shown others count (bodies.Acknowledge host service sticky notify persistent author text ∷ rest) =
    (sure ≡ true → HasProblem fresh shown host service) × IsApt fresh now sure shown true count rest
IsApt fresh now sure shown others count (bodies.Schedule host service starts ends fixed trigger lasts author text ∷ rest) =
    IsKnown fresh host service
    × (is_over now (record { starts = starts; ends = ends; fixed = fixed; trigger = trigger; lasts = lasts }) ≡ false)
    × (trigger ≤ count)
    × IsApt fresh now sure shown true (count + 1) rest
IsApt fresh now sure shown others count (bodies.Passive host service on ∷ rest) =
    IsKnown fresh host service × IsApt fresh now sure shown true count rest
IsApt fresh now sure shown others count (_ ∷ rest) = ⊥

-- what is known after such commands: so many entries are scheduled, no setting is made before the others begin, and these
-- are the states
record IsAfter (fresh : List ObjectLine) (now : Moment) (shown : ℕ → State) (others : Bool) (count : ℕ) (before : List Judged) : Type 0 where
  timely : AreTimely now (downtime_events fresh before)
  counted : length (scheduled_in 1 (downtime_events fresh before)) ≡ count
  none : others ≡ false → count ≡ 0
  enabled : others ≡ false → (place : ℕ) → is_passive place (object_events fresh before) ≡ true
  states : (place : ℕ) → state_of place (object_events fresh before) ≡ shown place

-- ---- outcomes

accepted_for : (fresh : List ObjectLine) (host : List ℕ) (service : Option (List ℕ)) (judge : ℕ → Outcome) → IsFaultless fresh
    → IsKnown fresh host service → ((place : ℕ) → place_of fresh host service ≡ Some place → is_accepted (judge place) ≡ true)
    → is_accepted (outcome_for fresh host service judge) ≡ true
accepted_for fresh host service judge good known each = found (place_of fresh host service) refl known
  where
    found : (place : Option ℕ) → place_of fresh host service ≡ place → is_some place ≡ true
        → is_accepted (outcome_for fresh host service judge) ≡ true
    found None is some = absurd cc
    found (Some place) is some =
        ap (λ (has : Bool). is_accepted (if has then outcome_at_place judge (place_of fresh host service) else NoSuchHost))
        (has_object-host fresh host service place good is)
        ∙ ap (λ at. is_accepted (outcome_at_place judge at)) is
        ∙ each place is

-- a window that isn't over, and whose trigger is live
record IsOpen (now starts ends : Moment) (fixed trigger lasts : ℕ) : Type 0 where
  starts_first : starts.0 < ends.0
  later : now.0 < ends.0
  duration : ((trigger == 0) || (fixed == 1) || nat_lt 0 lasts) ≡ true

lasting : (untriggered fixed : Bool) (lasts : ℕ) → (not untriggered && not fixed && (lasts == 0)) ≡ false
    → (untriggered || fixed || nat_lt 0 lasts) ≡ true
lasting true fixed lasts is = refl
lasting false true lasts is = refl
lasting false false lasts is = grind arith

opens : (now starts ends : Moment) (fixed trigger lasts : ℕ)
    → is_over now (record { starts = starts; ends = ends; fixed = fixed; trigger = trigger; lasts = lasts }) ≡ false
    → IsOpen now starts ends fixed trigger lasts
opens now starts ends fixed trigger lasts is =
    let terms : Terms = record { starts = starts; ends = ends; fixed = fixed; trigger = trigger; lasts = lasts } in
    let parts = or_parts (nat_le ends.0 (max starts.0 now.0)) (is_momentary terms) is in
    let high : max starts.0 now.0 < ends.0 = leb-false ends.0 (max starts.0 now.0) parts.0 in
    record {
      starts_first = omega arith;
      later = omega arith;
      duration = lasting (trigger == 0) (fixed == 1) lasts parts.1;
    }

in_window : (late past good : Bool) → late ≡ false → past ≡ false → good ≡ true
    → is_accepted (if late then BadWindow else (if past then WindowPast else (if good then Accepted else NoSuchTrigger))) ≡ true
in_window true past good late_is past_is good_is = absurd cc
in_window false true good late_is past_is good_is = absurd cc
in_window false false true late_is past_is good_is = refl
in_window false false false late_is past_is good_is = absurd cc

triggered : (live : ℕ → Bool) (trigger : ℕ) (zero : Bool) → (trigger == 0) ≡ zero → (1 ≤ trigger → live trigger ≡ true)
    → ((trigger == 0) || live trigger) ≡ true
triggered live trigger true is low = ap (λ (zero : Bool). zero || live trigger) is
triggered live trigger false is low =
    let some : 1 ≤ trigger = grind arith in
    ap (λ (zero : Bool). zero || live trigger) is ∙ low some

schedules : (live : ℕ → Bool) (now starts ends : Moment) (fixed trigger lasts : ℕ) → IsOpen now starts ends fixed trigger lasts
    → (1 ≤ trigger → live trigger ≡ true) → is_accepted (outcome_of_window live now starts ends trigger) ≡ true
schedules live now starts ends fixed trigger lasts window low =
    let late : nat_le ends.0 starts.0 ≡ false = grind (arith, window.starts_first) in
    let past : nat_le ends.0 now.0 ≡ false = grind (arith, window.later) in
    in_window (nat_le ends.0 starts.0) (nat_le ends.0 now.0) ((trigger == 0) || live trigger) late past
    (triggered live trigger (trigger == 0) refl low)

-- the outcome of the next command
one : (fresh : List ObjectLine) (now : Moment) (sure : Bool) (shown : ℕ → State) (others : Bool) (count : ℕ) (before : List Judged) (body : Body) (rest : List Body)
    → IsFaultless fresh → IsAfter fresh now shown others count before → IsApt fresh now sure shown others count (body ∷ rest)
    → (is_acknowledgement body ≡ true → sure ≡ true) → is_accepted (outcome_at fresh before now (act_of body)) ≡ true
unfolding IsApt
one fresh now sure shown others count before (bodies.Result host service code output) rest good after apt is =
    accepted_for fresh host service (λ place. if is_passive place (object_events fresh before) then Accepted else PassiveDisabled)
    good apt.1
    (λ place found. ap (λ (on : Bool). is_accepted (if on then Accepted else PassiveDisabled)) (after.enabled apt.0 place))
one fresh now sure shown others count before (bodies.AddComment host service persistent author text) rest good after apt is =
    accepted_for fresh host service (λ place. Accepted) good apt.0 (λ place found. refl)
one fresh now sure shown others count before (bodies.Acknowledge host service sticky notify persistent author text) rest good after apt is =
    let known : HasProblem fresh shown host service = apt.0 (is refl) in
    accepted_for fresh host service (λ place. if is_problem (state_of place (object_events fresh before)) then Accepted else NoProblem)
    good known.0
    (λ place found. ap (λ (problem : Bool). is_accepted (if problem then Accepted else NoProblem)) (
    ap is_problem (after.states place) ∙ known.1 place found
    ))
one fresh now sure shown others count before (bodies.Schedule host service starts ends fixed trigger lasts author text) rest good after apt is =
    let live = is_live_after fresh before now in
    accepted_for fresh host service (λ place. outcome_of_window live now starts ends trigger) good apt.0
    (λ place found. schedules live now starts ends fixed trigger lasts (opens now starts ends fixed trigger lasts apt.1) (
    λ low. all_live now (downtime_events fresh before) after.timely trigger low (omega (arith, after.counted, apt.2))
    ))
one fresh now sure shown others count before (bodies.Passive host service on) rest good after apt is =
    accepted_for fresh host service (λ place. Accepted) good apt.0 (λ place found. refl)
one fresh now sure shown others count before body rest good after apt is = absurd apt

-- ---- what is known after one more

-- a record of these, applied at this moment
abbrev applied : Moment → ℕ → Body → Record
applied now number body = record { moment = now; item = record { client = 1; number = number; body = body } }

-- such a record changes no entry
quiet : (accepted : Bool) (events : List DowntimeEvent) → events ≡ [] → (if accepted then events else []) ≡ []
quiet true events is = is
quiet false events is = refl

unchanged : (fresh : List ObjectLine) (now : Moment) (shown : ℕ → State) (others : Bool) (count : ℕ) (before : List Judged) (judgement : Judged)
    → downtime_events fresh (judgement ∷ before) ≡ downtime_events fresh before
    → ((place : ℕ) → state_of place (object_events fresh (judgement ∷ before)) ≡ state_of place (object_events fresh before))
    → IsAfter fresh now shown others count before → IsAfter fresh now shown true count (judgement ∷ before)
unchanged fresh now shown others count before judgement is same after = record {
  timely = subst (AreTimely now) (sym is) after.timely;
  counted = ap (λ events. length (scheduled_in 1 events)) is ∙ after.counted;
  none = λ not_yet. absurd cc;
  enabled = λ not_yet. absurd cc;
  states = λ place. same place ∙ after.states place;
}

-- it is a result
abbrev is_report : Deed → Bool
is_report (deeds.Result code) = true
is_report _ = false

-- the state of an object, where a deed is no result
undisturbed : (place : ℕ) (history : List ObjectEvent) (moment : Moment) (index : ℕ) (deed : Deed) (kind : Kind) (accepted : Bool) (at : Option ℕ) → is_report deed ≡ false
    → state_of place (option_to_list (if accepted then option_and_then (object_event_of_deed moment index deed) (option_map (object_at kind) at) else None) ++ history)
    ≡ state_of place history
undisturbed place history moment index deed kind false at other = refl
undisturbed place history moment index deed kind true None other = refl
undisturbed place history moment index (deeds.Result code) kind true (Some found) other = absurd cc
undisturbed place history moment index deed kind true (Some found) other = refl

-- it neither is a result nor schedules downtime
abbrev is_quiet : Deed → Bool
is_quiet (deeds.Result code) = false
is_quiet (deeds.Schedule span) = false
is_quiet _ = true

no_report : (deed : Deed) → is_quiet deed ≡ true → is_report deed ≡ false
no_report (deeds.Result code) still = cc
no_report deed still = refl

no_entries : (before : List ObjectEvent) (moment : Moment) (index : ℕ) (deed : Deed) (kind : Kind) (at : Option ℕ) → is_quiet deed ≡ true
    → unwrap_or (option_map (downtime_events_of_deed before moment index deed) (option_map (object_at kind) at)) [] ≡ []
no_entries before moment index deed kind None still = refl
no_entries before moment index (deeds.Result code) kind (Some found) still = absurd cc
no_entries before moment index (deeds.Schedule span) kind (Some found) still = absurd cc
no_entries before moment index deed kind (Some found) still = refl

transition_in : (now : Moment) (old : List DowntimeEvent) (test : Bool) (moment : Moment) (place : ℕ)
    → AreTimely now old → length (scheduled_in 1 old) ≡ 0
    → AreTimely now (option_to_list (if test then Some (downtime.Transition moment place) else None) ++ old)
unfolding AreTimely
transition_in now old true moment place timely none = (none, timely)
transition_in now old false moment place timely none = timely

transition_count : (old : List DowntimeEvent) (test : Bool) (moment : Moment) (place : ℕ)
    → length (scheduled_in 1 (option_to_list (if test then Some (downtime.Transition moment place) else None) ++ old))
    ≡ length (scheduled_in 1 old)
transition_count old true moment place = refl
transition_count old false moment place = refl

-- a result may be a transition
record AreStill (now : Moment) (old events : List DowntimeEvent) : Type 0 where
  timely : AreTimely now (events ++ old)
  counted : length (scheduled_in 1 (events ++ old)) ≡ length (scheduled_in 1 old)

still_none : (now : Moment) (old : List DowntimeEvent) → AreTimely now old → AreStill now old []
still_none now old timely = record { timely = timely; counted = refl }

result_events : (now : Moment) (old : List DowntimeEvent) (before : List ObjectEvent) (kind : Kind) (code : ℤ) (moment : Moment) (index : ℕ) (place : Option ℕ)
    → AreTimely now old → length (scheduled_in 1 old) ≡ 0
    → AreStill now old (unwrap_or (option_map (downtime_events_of_deed before moment index (deeds.Result code)) (option_map (object_at kind) place)) [])
result_events now old before kind code moment index None timely none = still_none now old timely
result_events now old before kind code moment index (Some at) timely none =
    let test = is_transition at (object.Result at (state_of_code kind code) moment index) before in
    record {
      timely = transition_in now old test moment at timely none;
      counted = transition_count old test moment at;
    }

if_still : (now : Moment) (old events : List DowntimeEvent) (accepted : Bool) → AreTimely now old → AreStill now old events
    → AreStill now old (if accepted then events else [])
if_still now old events true timely still = still
if_still now old events false timely still = still_none now old timely

still_passive : (place : ℕ) (history : List ObjectEvent) (accepted : Bool) (kind : Kind) (code : ℤ) (moment : Moment) (index : ℕ) (at : Option ℕ)
    → is_passive place history ≡ true
    → is_passive place (option_to_list (if accepted then option_and_then (object_event_of_deed moment index (deeds.Result code)) (option_map (object_at kind) at) else None) ++ history) ≡ true
still_passive place history true kind code moment index None on = on
still_passive place history true kind code moment index (Some found) on = on
still_passive place history false kind code moment index at on = on

pub more_events : (fresh : List ObjectLine) (judgement : Judged) (before : List Judged) (found : Option ObjectEvent)
    → object_event fresh judgement ≡ found → object_events fresh (judgement ∷ before) ≡ option_to_list found ++ object_events fresh before
more_events fresh judgement before None is = rw is
more_events fresh judgement before (Some event) is = rw is

-- the state of an object after a result
resulted : (fresh : List ObjectLine) (place : ℕ) (host : List ℕ) (service : Option (List ℕ)) (code : ℤ) (output : List ℕ) (moment : Moment) (index : ℕ) (history : List ObjectEvent) (accepted : Bool)
    → accepted ≡ true
    → state_of place (option_to_list (if accepted then object_event_of fresh moment index (acts.On host service (deeds.Result code)) else None) ++ history)
    ≡ state_by fresh place (bodies.Result host service code output) (state_of place history)
resulted fresh place host service code output moment index history false is = absurd cc
resulted fresh place host service code output moment index history true is = at (place_of fresh host service)
  where
    at : (found : Option ℕ)
        → state_of place (option_to_list (option_and_then (object_event_of_deed moment index (deeds.Result code)) (option_map (object_at (object_kind service)) found)) ++ history)
        ≡ (if is_at place found then state_of_code (object_kind service) code else state_of place history)
    at None = refl
    at (Some one) = state_of-result place one (state_of_code (object_kind service) code) moment index history

after_result : (fresh : List ObjectLine) (now : Moment) (shown : ℕ → State) (count number : ℕ) (before : List Judged) (host : List ℕ) (service : Option (List ℕ)) (code : ℤ) (output : List ℕ)
    → is_accepted (outcome_at fresh before now (acts.On host service (deeds.Result code))) ≡ true → IsAfter fresh now shown false count before
    → IsAfter fresh now (λ place. state_by fresh place (bodies.Result host service code output) (shown place)) false count
    (judgement_of fresh before (applied now number (bodies.Result host service code output)) ∷ before)
after_result fresh now shown count number before host service code output good after =
    let body : Body = bodies.Result host service code output in
    let old = downtime_events fresh before in
    let judgement = judgement_of fresh before (applied now number body) in
    let accepted = is_accepted judgement.outcome in
    let zero : length (scheduled_in 1 old) ≡ 0 = after.counted ∙ after.none refl in
    let still = if_still now old (downtime_events_of fresh (object_events fresh before) now (length before) (act_of body)) accepted after.timely (
    result_events now old (object_events fresh before) (object_kind service) code now (length before) (place_of fresh host service) after.timely zero
    ) in
    record {
      timely = still.timely;
      counted = still.counted ∙ after.counted;
      none = after.none;
      enabled = λ not_yet place.
          ap (is_passive place) (more_events fresh judgement before (object_event fresh judgement) refl)
          ∙ still_passive place (object_events fresh before) accepted (object_kind service) code now (length before)
          (place_of fresh host service) (after.enabled refl place);
      states = λ place.
          ap (state_of place) (more_events fresh judgement before (object_event fresh judgement) refl)
          ∙ resulted fresh place host service code output now (length before) (object_events fresh before) accepted good
          ∙ ap (state_by fresh place body) (after.states place);
    }

-- a command that neither is a result nor schedules downtime
quietly : (fresh : List ObjectLine) (now : Moment) (shown : ℕ → State) (others : Bool) (count number : ℕ) (before : List Judged) (body : Body) (host : List ℕ) (service : Option (List ℕ)) (deed : Deed)
    → act_of body ≡ acts.On host service deed → is_quiet deed ≡ true → IsAfter fresh now shown others count before
    → IsAfter fresh now shown true count (judgement_of fresh before (applied now number body) ∷ before)
quietly fresh now shown others count number before body host service deed asks still after =
    let judgement = judgement_of fresh before (applied now number body) in
    let accepted = is_accepted judgement.outcome in
    let objects = object_events fresh before in
    let old = downtime_events fresh before in
    unchanged fresh now shown others count before judgement
    (ap (λ (act : Act). (if accepted then downtime_events_of fresh objects now (length before) act else []) ++ old) asks
    ∙ ap (λ none. none ++ old)
    (quiet accepted (downtime_events_of fresh objects now (length before) (acts.On host service deed))
    (no_entries objects now (length before) deed (object_kind service) (place_of fresh host service) still)))
    (λ place.
    ap (state_of place) (more_events fresh judgement before (object_event fresh judgement) refl)
    ∙ ap (λ (act : Act). state_of place (option_to_list (if accepted then object_event_of fresh now (length before) act else None) ++ objects)) asks
    ∙ undisturbed place objects now (length before) deed (object_kind service) accepted (place_of fresh host service) (no_report deed still))
    after

-- an accepted command schedules its entry
one_more : (fresh : List ObjectLine) (now : Moment) (sure : Bool) (shown : ℕ → State) (others : Bool) (count number : ℕ) (before : List Judged) (host : List ℕ) (service : Option (List ℕ)) (starts ends : Moment) (fixed trigger lasts : ℕ) (author text : List ℕ) (rest : List Body)
    → IsFaultless fresh → IsAfter fresh now shown others count before
    → IsApt fresh now sure shown others count (bodies.Schedule host service starts ends fixed trigger lasts author text ∷ rest)
    → IsAfter fresh now shown true (count + 1) (
    judgement_of fresh before (applied now number (bodies.Schedule host service starts ends fixed trigger lasts author text)) ∷ before
    )
unfolding IsApt AreTimely
one_more fresh now sure shown others count number before host service starts ends fixed trigger lasts author text rest good after apt =
    scheduled (place_of fresh host service) refl apt.0
  where
    body : Body
    body = bodies.Schedule host service starts ends fixed trigger lasts author text

    span : Span
    span = span_of starts ends fixed trigger lasts

    judgement : Judged
    judgement = judgement_of fresh before (applied now number body)

    old : List DowntimeEvent
    old = downtime_events fresh before

    window : IsOpen now starts ends fixed trigger lasts
    window = opens now starts ends fixed trigger lasts apt.1

    added : (found : ObjectId) → downtime_events fresh (judgement ∷ before)
        ≡ downtime.Schedule now found (plan_of span (length before)) ∷ old
        → IsAfter fresh now shown true (count + 1) (judgement ∷ before)
    added found is =
        let timely : AreTimely now (downtime.Schedule now found (plan_of span (length before)) ∷ old) =
        (refl, window.later, omega (arith, apt.2, after.counted), window.duration, after.timely) in
        record {
          timely = subst (AreTimely now) (sym is) timely;
          counted = ap (λ events. length (scheduled_in 1 events)) is ∙ omega (arith, after.counted);
          none = λ not_yet. absurd cc;
          enabled = λ not_yet. absurd cc;
          states = λ place.
              ap (state_of place) (more_events fresh judgement before (object_event fresh judgement) refl)
              ∙ undisturbed place (object_events fresh before) now (length before) (deeds.Schedule span) (object_kind service) (is_accepted judgement.outcome) (place_of fresh host service) refl
              ∙ after.states place;
        }

    scheduled : (place : Option ℕ) → place_of fresh host service ≡ place → is_some place ≡ true
        → IsAfter fresh now shown true (count + 1) (judgement ∷ before)
    scheduled None is some = absurd cc
    scheduled (Some place) is some =
        let found = object_at (object_kind service) place in
        let objects = object_events fresh before in
        let made = downtime_events_of_deed objects now (length before) (deeds.Schedule span) in
        added found (
        ap (λ (accepted : Bool). (if accepted then downtime_events_of fresh objects now (length before) (act_of body) else []) ++ old)
        (one fresh now sure shown others count before body rest good after apt (λ same. absurd cc))
        ∙ ap (λ at. unwrap_or (option_map made (option_map (object_at (object_kind service)) at)) [] ++ old) is
        )

-- ---- all commands

-- the records of these commands, newest first, after such records
history : Moment → ℕ → List Record → List Body → List Record
history now number newer [] = newer
history now number newer (body ∷ rest) = history now (number + 1) (applied now number body ∷ newer) rest

reversed : (now : Moment) (number : ℕ) (newer : List Record) (commands : List Body)
    → reverse (records_from now number commands) ++ newer ≡ history now number newer commands
unfolding history
reversed now number newer [] = refl
reversed now number newer (body ∷ rest) =
    let record_now = applied now number body in
    let records = records_from now (number + 1) rest in
    ap (λ front. front ++ newer) (reverse-append (record_now ∷ []) records)
    ∙ append_assoc (reverse records) (record_now ∷ []) newer
    ∙ reversed now (number + 1) (record_now ∷ newer) rest

all : (fresh : List ObjectLine) (now : Moment) (sure : Bool) (shown : ℕ → State) (others : Bool) (count number : ℕ) (newer : List Record) (before : List Body) (body : Body) (rest : List Body)
    → IsFaultless fresh → IsAfter fresh now shown others count (judged fresh newer) → IsApt fresh now sure shown others count (before ++ body ∷ rest)
    → (is_acknowledgement body ≡ true → sure ≡ true)
    → is_accepted (outcome_at fresh (judged fresh (history now number newer before)) now (act_of body)) ≡ true
unfolding IsApt history
all fresh now sure shown others count number newer [] body rest good after apt is =
    one fresh now sure shown others count (judged fresh newer) body rest good after apt is
all fresh now sure shown others count number newer (bodies.Result host service code output ∷ before) body rest good after apt is =
    let first : Body = bodies.Result host service code output in
    let results : IsAfter fresh now shown false count (judged fresh newer) =
    subst (λ begun. IsAfter fresh now shown begun count (judged fresh newer)) apt.0 after in
    let accepted = one fresh now sure shown others count (judged fresh newer) first (before ++ body ∷ rest) good after apt (λ same. absurd cc) in
    all fresh now sure (λ place. state_by fresh place first (shown place)) false count (number + 1) (applied now number first ∷ newer) before body rest good
    (after_result fresh now shown count number (judged fresh newer) host service code output accepted results) apt.2 is
all fresh now sure shown others count number newer (bodies.AddComment host service persistent author text ∷ before) body rest good after apt is =
    let first : Body = bodies.AddComment host service persistent author text in
    all fresh now sure shown true count (number + 1) (applied now number first ∷ newer) before body rest good
    (quietly fresh now shown others count number (judged fresh newer) first host service (deeds.AddComment (is_persistent persistent)) refl refl after) apt.1 is
all fresh now sure shown others count number newer (bodies.Acknowledge host service sticky notify persistent author text ∷ before) body rest good after apt is =
    let first : Body = bodies.Acknowledge host service sticky notify persistent author text in
    all fresh now sure shown true count (number + 1) (applied now number first ∷ newer) before body rest good
    (quietly fresh now shown others count number (judged fresh newer) first host service (deeds.Acknowledge (is_sticky sticky) (is_persistent persistent)) refl refl after) apt.1 is
all fresh now sure shown others count number newer (bodies.Schedule host service starts ends fixed trigger lasts author text ∷ before) body rest good after apt is =
    let first : Body = bodies.Schedule host service starts ends fixed trigger lasts author text in
    all fresh now sure shown true (count + 1) (number + 1) (applied now number first ∷ newer) before body rest good
    (one_more fresh now sure shown others count number (judged fresh newer) host service starts ends fixed trigger lasts author text (before ++ body ∷ rest) good after apt)
    apt.3 is
all fresh now sure shown others count number newer (bodies.Passive host service on ∷ before) body rest good after apt is =
    let first : Body = bodies.Passive host service on in
    all fresh now sure shown true count (number + 1) (applied now number first ∷ newer) before body rest good
    (quietly fresh now shown others count number (judged fresh newer) first host service (deeds.Passive on) refl refl after) apt.1 is
all fresh now sure shown others count number newer (_ ∷ before) body rest good after apt is = absurd apt

-- no object has a result yet
abbrev pub all_pending : ℕ → State
all_pending place = Pending

accepts : (fresh : List ObjectLine) (now : Moment) (sure : Bool) (commands before : List Body) (body : Body) (after : List Body)
    → IsFaultless fresh → IsApt fresh now sure all_pending false 0 commands → commands ≡ before ++ body ∷ after
    → (is_acknowledgement body ≡ true → sure ≡ true) → accepts_after fresh now before body ≡ true
unfolding AreTimely
accepts fresh now sure commands before body after good apt whole is =
    let begun : IsAfter fresh now all_pending false 0 (judged fresh []) =
    record {
      timely = tt;
      counted = refl;
      none = λ not_yet. refl;
      enabled = λ not_yet place. refl;
      states = λ place. refl;
    } in
    let records : reverse (records_from now 1 before) ≡ history now 1 [] before =
    sym (append-nil (reverse (records_from now 1 before))) ∙ reversed now 1 [] before in
    ap (λ (newest : List Record). is_accepted (outcome_at fresh (judged fresh newest) now (act_of body))) records
    ∙ all fresh now sure all_pending false 0 1 [] before body after good begun (subst (IsApt fresh now sure all_pending false 0) whole apt) is

pub accepts_others : (fresh : List ObjectLine) (now : Moment) (commands : List Body) → IsFaultless fresh
    → IsApt fresh now false all_pending false 0 commands → AcceptsOthers fresh now commands
accepts_others fresh now commands good apt before body after whole is =
    accepts fresh now false commands before body after good apt whole (λ same. sym is ∙ same)

records_more : (now : Moment) (number : ℕ) (before : List Body) (body : Body)
    → (last : ℕ) × (records_from now number (before ++ body ∷ []) ≡ records_from now number before ++ applied now last body ∷ [])
records_more now number [] body = (number, refl)
records_more now number (first ∷ before) body =
    let rest = records_more now (number + 1) before body in
    (rest.0, ap (λ records. applied now number first ∷ records) rest.1)

-- where each command is accepted after those before it, none is refused
none_refused : (fresh : List ObjectLine) (now : Moment) (commands before after : List Body) → commands ≡ before ++ after
    → ((front : List Body) (body : Body) (back : List Body) → commands ≡ front ++ body ∷ back → accepts_after fresh now front body ≡ true)
    → first_refusal fresh now before ≡ None → first_refusal fresh now commands ≡ None
none_refused fresh now commands before [] whole each none = ap (first_refusal fresh now) (whole ∙ append-nil before) ∙ none
none_refused fresh now commands before (body ∷ after) whole each none =
    let records = records_from now 1 before in
    let more = records_more now 1 before body in
    let outcome = outcome_after fresh records now body in
    let next : first_refusal fresh now (before ++ body ∷ []) ≡ None =
    ap (λ list. first_among (outcomes_of fresh list)) more.1
    ∙ ap first_among (outcomes_of-append fresh records (applied now more.0 body))
    ∙ position_from-push (λ (one : Outcome). not (is_accepted one)) 0 (outcomes_of fresh records) outcome none
    ∙ ap (λ (refused : Bool). cond refused (Some (0 + length (outcomes_of fresh records))) None) (ap not (each before body after whole)) in
    none_refused fresh now commands (before ++ body ∷ []) after (whole ∙ sym (append_assoc before (body ∷ []) after)) each next

pub accepts_all : (fresh : List ObjectLine) (now : Moment) (commands : List Body) → IsFaultless fresh
    → IsApt fresh now true all_pending false 0 commands → first_refusal fresh now commands ≡ None
accepts_all fresh now commands good apt =
    none_refused fresh now commands [] commands refl
    (λ before body after whole. accepts fresh now true commands before body after good apt whole (λ same. refl)) refl
