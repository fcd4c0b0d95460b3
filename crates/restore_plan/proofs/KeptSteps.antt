-- What the records of a kept log leave: an acknowledged object has a problem, and the last result of an object is that of a
-- record.
use Rattle.std.proofs.Common.{◌≡◌, ℕ, zero, suc, ℤ, ◌+◌, ◌==◌, Bool, true, false, cond, not, ◌&&◌, ◌||◌, List, [], ◌∷◌, ◌++◌, length, reverse, Option, Some, None, refl, sym, ap, ◌∙◌, subst, arith}
use Rattle.std.specs.Prelude.{slice_get, option_map, if◌then◌else◌}
use Rattle.std.specs.Option.{option_to_list, option_and_then}
use Rattle.std.proofs.lemmas.List.{reverse-append, reverse-reverse, length-reverse}
use Rattle.gate_model.specs.declared.record.Moment.{Moment}
use Rattle.gate_model.specs.declared.record.Record.{Record}
use Rattle.gate_model.specs.declared.record.Outcome.TheVariants.{Accepted, NoSuchHost, NoProblem}
use Rattle.gate_model.specs.declared.object.Kind.{Kind}
use Rattle.gate_model.specs.declared.object.ObjectId.{ObjectId}
use Rattle.gate_model.specs.declared.object.ObjectLine.{ObjectLine}
use Rattle.gate_model.specs.declared.state.State.{State}
use Rattle.gate_model.specs.declared.status.ObjectEvent.{ObjectEvent}
use Rattle.gate_model.specs.declared.status.ObjectEvent.TheVariants as object
use Rattle.gate_model.specs.declared.status.CheckResult.{CheckResult}
use Rattle.gate_model.specs.declared.status.Acknowledgement.{Acknowledgement}
use Rattle.gate_model.specs.declared.submission.Body.{Body}
use Rattle.gate_model.specs.declared.submission.Body.TheVariants as bodies
use Rattle.gate_model.specs.declared.act.Deed.{Deed}
use Rattle.gate_model.specs.declared.act.Deed.TheVariants as deeds
use Rattle.gate_model.specs.declared.act.Act.{Act}
use Rattle.gate_model.specs.declared.act.Act.TheVariants as acts
use Rattle.gate_model.specs.Act.{act_of}
use Rattle.gate_model.specs.Record.{is_accepted}
use Rattle.gate_model.specs.State.{state_of_code, is_problem}
use Rattle.gate_model.specs.Status.{last_result, state_of, acknowledgement_of, is_change}
use Rattle.gate_model.specs.Table.{place_of, object_kind, object_at, has_object}
use Rattle.gate_model.specs.Meaning.{Judged, object_event_of_deed, object_event_of, object_event, object_events, outcome_at_place, outcome_at, judgement_of, judged, last_result_at, state_at, acknowledgement_at}
use Rattle.gate_model.proofs.Lists.{none_is_not_some}
use Rattle.gate_model.proofs.ObjectSteps.{kept_by, last_result-result, state_of-result, acknowledgement_of-result, acknowledgement_of-remove, acknowledgement_of-acknowledge, acknowledgement_of-passive}
use Rattle.restore_plan.proofs.AcceptSteps.{more_events}

-- ---- acknowledgements

-- an object that is acknowledged after these events has a problem
abbrev IsProblemAt : ℕ → List ObjectEvent → Type 0
IsProblemAt place history = (made : Acknowledgement) → acknowledgement_of place history ≡ Some made → is_problem (state_of place history) ≡ true

result_case : (mine problem ended : Bool) (old made : Acknowledgement) (state before : State) → is_problem state ≡ problem
    → cond ((mine && not problem) || ended) None (Some old) ≡ Some made → is_problem before ≡ true
    → is_problem (cond mine state before) ≡ true
result_case true true ended old made state before is kept known = is
result_case true false ended old made state before is kept known = absurd (none_is_not_some made kept)
result_case false problem ended old made state before is kept known = known

after_result : (place at : ℕ) (state : State) (moment : Moment) (index : ℕ) (before : List ObjectEvent) → IsProblemAt place before
    → IsProblemAt place (object.Result at state moment index ∷ before)
after_result place at state moment index before known made is = from (acknowledgement_of place before) refl
  where
    event : ObjectEvent
    event = object.Result at state moment index

    from : (old : Option Acknowledgement) → acknowledgement_of place before ≡ old → is_problem (state_of place (event ∷ before)) ≡ true
    from None e =
        absurd (none_is_not_some made (sym (acknowledgement_of-result place at state moment index before ∙ ap (kept_by place event before) e) ∙ is))
    from (Some old) e =
        ap is_problem (state_of-result place at state moment index before)
        ∙ result_case (at == place) (is_problem state) (not old.sticky && is_change place event before) old made state (state_of place before) refl
        (sym (acknowledgement_of-result place at state moment index before ∙ ap (kept_by place event before) e) ∙ is) (known old e)

kept_made : (ended : Bool) (old made : Acknowledgement) → cond ended None (Some old) ≡ Some made → (Some old) ≡ Some made
kept_made true old made is = absurd (none_is_not_some made is)
kept_made false old made is = is

after_remove : (place at : ℕ) (before : List ObjectEvent) → IsProblemAt place before → IsProblemAt place (object.RemoveAck at ∷ before)
after_remove place at before known made is = from (acknowledgement_of place before) refl
  where
    from : (old : Option Acknowledgement) → acknowledgement_of place before ≡ old → is_problem (state_of place before) ≡ true
    from None e =
        absurd (none_is_not_some made (sym (acknowledgement_of-remove place at before ∙ ap (kept_by place (object.RemoveAck at) before) e) ∙ is))
    from (Some old) e = known old e

acknowledged_case : (mine : Bool) (new made : Acknowledgement) (old : Option Acknowledgement) (problem : Bool) → (mine ≡ true → problem ≡ true)
    → (old ≡ Some made → problem ≡ true) → cond mine (Some new) old ≡ Some made → problem ≡ true
acknowledged_case true new made old problem own known is = own refl
acknowledged_case false new made old problem own known is = known is

after_acknowledge : (place at : ℕ) (sticky : Bool) (index : ℕ) (before : List ObjectEvent)
    → ((at == place) ≡ true → is_problem (state_of place before) ≡ true) → IsProblemAt place before
    → IsProblemAt place (object.Acknowledge at sticky index ∷ before)
after_acknowledge place at sticky index before own known made is =
    acknowledged_case (at == place) (record { sticky = sticky; log_index = index }) made (acknowledgement_of place before)
    (is_problem (state_of place before)) own (known made)
    (sym (acknowledgement_of-acknowledge place at sticky index before) ∙ is)

-- an accepted acknowledgement is one of a problem
judged_case : (has : Bool) (at : Option ℕ) (problem : ℕ → Bool) (kind : Kind) (given sticky : Bool) (number index place : ℕ)
    → (if is_accepted (if has then outcome_at_place (λ found. if problem found then Accepted else NoProblem) at else NoSuchHost)
    then option_and_then (λ (found : ObjectId). Some (object.Acknowledge found.place given number)) (option_map (object_at kind) at) else None) ≡ Some (object.Acknowledge place sticky index)
    → problem place ≡ true
judged_case false at problem kind given sticky number index place is = absurd cc
judged_case true None problem kind given sticky number index place is = absurd cc
judged_case true (Some found) problem kind given sticky number index place is = pick (problem found) refl is
  where
    pick : (holds : Bool) → problem found ≡ holds
        → (if is_accepted (if holds then Accepted else NoProblem) then Some (object.Acknowledge found given number) else None)
        ≡ Some (object.Acknowledge place sticky index)
        → problem place ≡ true
    pick true e same = let one : found ≡ place = cc in ap problem (sym one) ∙ e
    pick false e same = absurd cc

no_event : (accepted : Bool) (event : ObjectEvent) → (if accepted then None else None) ≡ Some event → ⊥
no_event true event is = none_is_not_some event is
no_event false event is = none_is_not_some event is

-- an event that a deed makes at its object is what it makes
made_by : (accepted : Bool) (make : ObjectId → Option ObjectEvent) (kind : Kind) (at : Option ℕ) (event : ObjectEvent)
    → (if accepted then option_and_then make (option_map (object_at kind) at) else None) ≡ Some event
    → (place : ℕ) × (at ≡ Some place) × (make (object_at kind place) ≡ Some event)
made_by true make kind None event is = absurd (none_is_not_some event is)
made_by true make kind (Some place) event is = (place, refl, is)
made_by false make kind at event is = absurd (none_is_not_some event is)

-- the event of an act
abbrev event_of : List ObjectLine → List Judged → Moment → Act → Option ObjectEvent
event_of table before moment act =
    if is_accepted (outcome_at table before moment act) then object_event_of table moment (length before) act else None

-- it acknowledges a problem
abbrev is_acknowledge : Deed → Bool
is_acknowledge (deeds.Acknowledge sticky persistent) = true
is_acknowledge _ = false

-- no other deed is an acknowledgement
other_deed : (deed : Deed) (moment : Moment) (number : ℕ) (found : ObjectId) (place : ℕ) (sticky : Bool) (index : ℕ)
    → is_acknowledge deed ≡ false → object_event_of_deed moment number deed found ≡ Some (object.Acknowledge place sticky index) → ⊥
other_deed (deeds.Acknowledge given persistent) moment number found place sticky index other is = cc
other_deed deed moment number found place sticky index other is = cc

acks_problem : (table : List ObjectLine) (before : List Judged) (moment : Moment) (act : Act) (place : ℕ) (sticky : Bool) (index : ℕ)
    → event_of table before moment act ≡ Some (object.Acknowledge place sticky index)
    → is_problem (state_of place (object_events table before)) ≡ true
acks_problem table before moment (acts.On host service (deeds.Acknowledge given persistent)) place sticky index is =
    judged_case (has_object table host None) (place_of table host service) (λ found. is_problem (state_of found (object_events table before)))
    (object_kind service) given sticky (length before) index place is
acks_problem table before moment (acts.On host service deed) place sticky index is =
    let made = made_by (is_accepted (outcome_at table before moment (acts.On host service deed))) (object_event_of_deed moment (length before) deed)
    (object_kind service) (place_of table host service) (object.Acknowledge place sticky index) is in
    absurd (other_deed deed moment (length before) (object_at (object_kind service) made.0) place sticky index refl made.2)
acks_problem table before moment act place sticky index is =
    absurd (no_event (is_accepted (outcome_at table before moment act)) (object.Acknowledge place sticky index) is)

all_problems : (table : List ObjectLine) (newest : List Record) (place : ℕ) → IsProblemAt place (object_events table (judged table newest))
all_problems table [] place = λ made is. absurd (none_is_not_some made is)
all_problems table (applied ∷ older) place =
    let before = judged table older in
    let judgement = judgement_of table before applied in
    subst (IsProblemAt place) (sym (more_events table judgement before (object_event table judgement) refl))
    (next (object_event table judgement) refl (all_problems table older place))
  where
    next : (event : Option ObjectEvent) → object_event table (judgement_of table (judged table older) applied) ≡ event
        → IsProblemAt place (object_events table (judged table older))
        → IsProblemAt place (option_to_list event ++ object_events table (judged table older))
    next None is known = known
    next (Some (object.Result at state moment index)) is known =
        after_result place at state moment index (object_events table (judged table older)) known
    next (Some (object.Acknowledge at sticky index)) is known =
        after_acknowledge place at sticky index (object_events table (judged table older))
        (λ same.
        let one : at ≡ place = grind arith in
        ap (λ where_it_is. is_problem (state_of where_it_is (object_events table (judged table older)))) (sym one)
        ∙ acks_problem table (judged table older) applied.moment (act_of applied.item.body) at sticky index is)
        known
    next (Some (object.RemoveAck at)) is known = after_remove place at (object_events table (judged table older)) known
    next (Some (object.Passive at on)) is known =
        λ made on_it. known made (sym (acknowledgement_of-passive place at on (object_events table (judged table older))) ∙ on_it)

pub problem_at : (table : List ObjectLine) (records : List Record) (place : ℕ) (made : Acknowledgement)
    → acknowledgement_at table records place ≡ Some made → is_problem (state_at table records place) ≡ true
problem_at table records place made is = all_problems table (reverse records) place made is

-- ---- results

-- the record of the last result of the object at this place
pub record IsRecorded (table : List ObjectLine) (records : List Record) (place : ℕ) (last : CheckResult) : Type 0 where
  pub applied : Record
  pub host : List ℕ
  pub service : Option (List ℕ)
  pub code : ℤ
  pub output : List ℕ
  pub at : slice_get records last.log_index ≡ Some applied
  pub body : applied.item.body ≡ bodies.Result host service code output
  pub object : place_of table host service ≡ Some place
  pub state : last.state ≡ state_of_code (object_kind service) code

get_front : {A : Type 0} (items more : List A) (index : ℕ) (item : A) → slice_get items index ≡ Some item → slice_get (items ++ more) index ≡ Some item
get_front [] more index item is = absurd cc
get_front (first ∷ items) more zero item is = is
get_front (first ∷ items) more (suc index) item is = get_front items more index item is

get_seam : {A : Type 0} (items : List A) (item : A) → slice_get (items ++ item ∷ []) (length items) ≡ Some item
get_seam [] item = refl
get_seam (first ∷ items) item = get_seam items item

judged_length : (table : List ObjectLine) (newest : List Record) → length (judged table newest) ≡ length newest
judged_length table [] = refl
judged_length table (applied ∷ older) = ap suc (judged_length table older)

-- the command of a result
record IsResultOf (table : List ObjectLine) (before : List Judged) (body : Body) (place : ℕ) (state : State) (index : ℕ) : Type 0 where
  host : List ℕ
  service : Option (List ℕ)
  code : ℤ
  output : List ℕ
  whole : body ≡ bodies.Result host service code output
  object_is : place_of table host service ≡ Some place
  state_is : state ≡ state_of_code (object_kind service) code
  index_is : index ≡ length before

-- a body that asks for a result is one
body_of_result : (body : Body) (host : List ℕ) (service : Option (List ℕ)) (code : ℤ) → act_of body ≡ acts.On host service (deeds.Result code)
    → (output : List ℕ) × (body ≡ bodies.Result host service code output)
body_of_result (bodies.Result host' service' code' output) host service code is = (output, cc)
body_of_result body host service code is = absurd cc

-- it is a result
abbrev is_report : Deed → Bool
is_report (deeds.Result code) = true
is_report _ = false

-- no other deed is a result
no_report : (deed : Deed) (moment : Moment) (number : ℕ) (found : ObjectId) (place : ℕ) (state : State) (at : Moment) (index : ℕ)
    → is_report deed ≡ false → object_event_of_deed moment number deed found ≡ Some (object.Result place state at index) → ⊥
no_report (deeds.Result code) moment number found place state at index other is = cc
no_report deed moment number found place state at index other is = cc

-- the act of a result
result_act : (table : List ObjectLine) (before : List Judged) (moment : Moment) (body : Body) (act : Act) (place : ℕ) (state : State) (at : Moment) (index : ℕ)
    → act_of body ≡ act → event_of table before moment act ≡ Some (object.Result place state at index) → IsResultOf table before body place state index
result_act table before moment body (acts.On host service (deeds.Result code)) place state at index asks is =
    let from = body_of_result body host service code asks in
    let made = made_by (is_accepted (outcome_at table before moment (acts.On host service (deeds.Result code)))) (object_event_of_deed moment (length before) (deeds.Result code))
    (object_kind service) (place_of table host service) (object.Result place state at index) is in
    let same = made.2 in
    let one : made.0 ≡ place = cc in
    record {
      host = host;
      service = service;
      code = code;
      output = from.0;
      whole = from.1;
      object_is = made.1 ∙ ap (λ found. Some found) one;
      state_is = cc;
      index_is = cc;
    }
result_act table before moment body (acts.On host service deed) place state at index asks is =
    let made = made_by (is_accepted (outcome_at table before moment (acts.On host service deed))) (object_event_of_deed moment (length before) deed)
    (object_kind service) (place_of table host service) (object.Result place state at index) is in
    absurd (no_report deed moment (length before) (object_at (object_kind service) made.0) place state at index refl made.2)
result_act table before moment body act place state at index asks is =
    absurd (no_event (is_accepted (outcome_at table before moment act)) (object.Result place state at index) is)

recorded_before : (table : List ObjectLine) (older : List Record) (applied : Record) (place : ℕ) (last : CheckResult)
    → IsRecorded table (reverse older) place last → IsRecorded table (reverse (applied ∷ older)) place last
recorded_before table older applied place last is =
    record {
      applied = is.applied;
      host = is.host;
      service = is.service;
      code = is.code;
      output = is.output;
      at =
          ap (λ records. slice_get records last.log_index) (reverse-append (applied ∷ []) older)
          ∙ get_front (reverse older) (applied ∷ []) last.log_index is.applied is.at;
      body = is.body;
      object = is.object;
      state = is.state;
    }

-- the last result after one more of this object or of another
last_case : (mine : Bool) (new last : CheckResult) (old : Option CheckResult) (P : Type 0) → cond mine (Some new) old ≡ Some last
    → (mine ≡ true → new ≡ last → P) → (old ≡ Some last → P) → P
last_case true new last old P is own before = own refl cc
last_case false new last old P is own before = before is

all_recorded : (table : List ObjectLine) (newest : List Record) (place : ℕ) (last : CheckResult)
    → last_result place (object_events table (judged table newest)) ≡ Some last → IsRecorded table (reverse newest) place last
all_recorded table [] place last is = absurd (none_is_not_some last is)
all_recorded table (applied ∷ older) place last is =
    next (object_event table (judgement_of table (judged table older) applied)) refl
    (sym (ap (last_result place) (more_events table (judgement_of table (judged table older) applied) (judged table older) (object_event table (judgement_of table (judged table older) applied)) refl)) ∙ is)
    (λ it. recorded_before table older applied place last (all_recorded table older place last it))
  where
    before : List ObjectEvent
    before = object_events table (judged table older)

    own : (at : ℕ) (state : State) (moment : Moment) (index : ℕ)
        → event_of table (judged table older) applied.moment (act_of applied.item.body) ≡ Some (object.Result at state moment index)
        → (at == place) ≡ true → record { state = state; moment = moment; log_index = index } ≡ last
        → IsRecorded table (reverse (applied ∷ older)) place last
    own at state moment index event mine same =
        let from = result_act table (judged table older) applied.moment applied.item.body (act_of applied.item.body) at state moment index refl event in
        let one : at ≡ place = grind arith in
        let here : last.log_index ≡ length (reverse older) =
        sym (ap (λ (found : CheckResult). found.log_index) same) ∙ from.index_is ∙ judged_length table older ∙ sym (length-reverse older) in
        record {
          applied = applied;
          host = from.host;
          service = from.service;
          code = from.code;
          output = from.output;
          at =
              ap (λ records. slice_get records last.log_index) (reverse-append (applied ∷ []) older)
              ∙ ap (slice_get (reverse older ++ applied ∷ [])) here
              ∙ get_seam (reverse older) applied;
          body = from.whole;
          object = from.object_is ∙ ap (λ found. Some found) one;
          state = sym (ap (λ (found : CheckResult). found.state) same) ∙ from.state_is;
        }

    next : (event : Option ObjectEvent) → event_of table (judged table older) applied.moment (act_of applied.item.body) ≡ event
        → last_result place (option_to_list event ++ before) ≡ Some last
        → (last_result place before ≡ Some last → IsRecorded table (reverse (applied ∷ older)) place last)
        → IsRecorded table (reverse (applied ∷ older)) place last
    next (Some (object.Result at state moment index)) event it from_before =
        last_case (at == place) (record { state = state; moment = moment; log_index = index }) last (last_result place before)
        (IsRecorded table (reverse (applied ∷ older)) place last)
        (sym (last_result-result place at state moment index before) ∙ it) (own at state moment index event) from_before
    next _ event it from_before = from_before it

pub recorded : (table : List ObjectLine) (records : List Record) (place : ℕ) (last : CheckResult)
    → last_result_at table records place ≡ Some last → IsRecorded table records place last
recorded table records place last is =
    subst (λ all. IsRecorded table all place last) (reverse-reverse records) (all_recorded table (reverse records) place last is)
