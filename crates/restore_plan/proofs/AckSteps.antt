-- A gateway accepts all that is sent of a kept log: an object that is acknowledged has its problem again.
use Rattle.std.proofs.Common.{◌≡◌, ℕ, zero, suc, ℤ, ◌+◌, ◌<◌, ◌==◌, Bool, true, false, List, [], ◌∷◌, ◌++◌, filter_map, refl, sym, ap, ◌∙◌, subst, arith}
use Rattle.std.specs.Prelude.{not, slice_get, Option, Some, None, option_map, is_some, Result, Ok, Err, if◌then◌else◌}
use Rattle.std.specs.List.{AllByRecursion}
use Rattle.std.specs.Option.{option_to_list, option_and_then}
use Rattle.std.proofs.lemmas.Bool.{and_parts}
use Rattle.std.proofs.lemmas.List.Elements.{filter_map-append}
use Rattle.gate_model.specs.declared.record.Moment.{Moment}
use Rattle.gate_model.specs.declared.record.Record.{Record}
use Rattle.gate_model.specs.declared.object.ObjectLine.{ObjectLine}
use Rattle.gate_model.specs.declared.object.ObjectId.{ObjectId}
use Rattle.gate_model.specs.declared.state.State.{State}
use Rattle.gate_model.specs.declared.status.CheckResult.{CheckResult}
use Rattle.gate_model.specs.declared.status.Acknowledgement.{Acknowledgement}
use Rattle.gate_model.specs.declared.downtime.Plan.{Plan as Scheduled}
use Rattle.gate_model.specs.declared.submission.Body.{Body}
use Rattle.gate_model.specs.declared.submission.Body.TheVariants as bodies
use Rattle.gate_model.specs.State.{state_of_code, is_problem}
use Rattle.gate_model.specs.Status.{state_left_by}
use Rattle.gate_model.specs.Table.{place_of, object_of, object_kind, object_at, is_line_of}
use Rattle.gate_table.specs.Faults.{IsFaultless}
use Rattle.gate_model.specs.Meaning.{last_result_at, acknowledgement_at}
use Rattle.gate_model.proofs.Lists.{none_is_not_some, position_from-found}
use Rattle.gate_table.proofs.KeySteps.{line_decides}
use Rattle.gate_applier.specs.Applier.{ApplierView}
use Rattle.restore_plan.specs.declared.entries.Terms.{Terms}
use Rattle.restore_plan.specs.declared.entries.Renewal.{Renewal}
use Rattle.restore_plan.specs.declared.fates.Fate.{Fate}
use Rattle.restore_plan.specs.declared.fates.Fate.TheVariants.{Left}
use Rattle.restore_plan.specs.declared.fates.Cause.{Cause}
use Rattle.restore_plan.specs.declared.fates.Cause.TheVariants.{TooOld}
use Rattle.restore_plan.specs.declared.plan.Plan.{Plan}
use Rattle.restore_plan.specs.Fates.{sent_to, last_of, has_comment, comments_in, comment_fate, is_in_force, is_made_by, last_is_outdated, is_disabled, fate_of_result, is_outdated, threshold_of}
use Rattle.restore_plan.specs.Entries.{renewals_of, fate_by, fate_in, entry_fate}
use Rattle.restore_plan.specs.Plan.{result_in, other_in, results_from, results_of, others_of, sent_of, commands_of}
use Rattle.restore_plan.specs.Scheduling.{sent_terms, AreSchedulable}
use Rattle.restore_plan.specs.Rehearsal.{first_refusal}
use Rattle.restore_plan.proofs.KeptSteps.{problem_at, recorded}
use Rattle.restore_plan.proofs.AcceptSteps.{is_at, state_by, all_pending, accepts_all}
use Rattle.restore_plan.proofs.PlainSteps.{IsPlainResult, IsPlain, IsAcked, SendsOnly, MaySendOnly, shown_at, shown_by, choice, all_results, all_others, log_plain, plan_apt}

-- ---- names

-- the object at one place has one pair of names
pub one_name : (table : List ObjectLine) (host other : List ℕ) (service last : Option (List ℕ)) (place : ℕ) → place_of table host service ≡ Some place
    → place_of table other last ≡ Some place → (other ≡ host) × (last ≡ service)
one_name table host other service last place is that =
    let one = position_from-found (is_line_of host service) table place is in
    let two = position_from-found (is_line_of other last) table place that in
    let line : one.0 ≡ two.0 = let left = one.1 in let right = two.1 in cc in
    let first = (line_decides host service one.0).0 one.2 in
    let second = (line_decides other last two.0).0 two.2 in (
      sym second.0 ∙ sym (ap (λ (found : ObjectLine). found.host) line) ∙ first.0,
      sym second.1 ∙ sym (ap (λ (found : ObjectLine). found.service) line) ∙ first.1,
    )

-- ---- the state that the results leave

pub shown-append : (fresh : List ObjectLine) (place : ℕ) (state : State) (one more : List Body)
    → shown_at fresh place state (one ++ more) ≡ shown_at fresh place (shown_at fresh place state one) more
shown-append fresh place state [] more = refl
shown-append fresh place state (body ∷ one) more = shown-append fresh place (state_by fresh place body state) one more

-- the last result of a kept object, whose result is sent to the fresh gateway's object at this place
record IsLast (fresh : List ObjectLine) (kept : ApplierView) (place : ℕ) (host : List ℕ) (service : Option (List ℕ)) (code : ℤ) (output : List ℕ) (last : CheckResult) : Type 0 where
  fresh_place : place_of fresh host service ≡ Some place
  last_is : last_of kept host service ≡ Some last
  recent : is_outdated (threshold_of fresh (object_of fresh host service)) last.moment kept.moment ≡ false

abbrev pub sent_bodies : Option Fate → List Body
sent_bodies fate = filter_map sent_of (option_to_list fate)

-- a record of another kind sends no result
no_result : (fresh : List ObjectLine) (place : ℕ) (here : Bool) (target state : State) → (here ≡ true → ⊥)
    → shown_at fresh place state [] ≡ (if here then target else state)
no_result fresh place true target state not_here = absurd (not_here refl)
no_result fresh place false target state not_here = refl

-- a result of another object changes nothing here
elsewhere : (fresh : List ObjectLine) (place : ℕ) (state : State) (object : Option ObjectId) (host : List ℕ) (service : Option (List ℕ)) (code : ℤ) (output : List ℕ) (index : ℕ) (last : Option CheckResult) (now : Moment)
    → is_at place (place_of fresh host service) ≡ false
    → shown_at fresh place state (sent_bodies (fate_of_result fresh now index last host service code output)) ≡ state
elsewhere fresh place state object host service code output index None now is = refl
elsewhere fresh place state object host service code output index (Some last) now is =
    either (not (last.log_index == index)) (is_outdated (threshold_of fresh (object_of fresh host service)) last.moment now)
    (object_of fresh host service)
  where
    body : Body
    body = bodies.Result host service code output

    either : (other late : Bool) (found : Option ObjectId)
        → shown_at fresh place state (sent_bodies (if other then None else (if late then Some (Left TooOld body) else Some (sent_to found body))))
        ≡ state
    either true late found = refl
    either false true found = refl
    either false false None = refl
    either false false (Some found) = ap (λ (mine : Bool). if mine then state_of_code (object_kind service) code else state) is

pub at_place : (place : ℕ) (found : Option ℕ) → is_at place found ≡ true → found ≡ Some place
at_place place None is = absurd cc
at_place place (Some one) is = let same : one ≡ place = grind arith in ap (λ it. Some it) same

-- of the results of this object the last one is sent
here_case : (fresh : List ObjectLine) (place : ℕ) (state : State) (host : List ℕ) (service : Option (List ℕ)) (code : ℤ) (output : List ℕ) (here late : Bool) (found : Option ℕ)
    → place_of fresh host service ≡ found → found ≡ Some place → late ≡ false
    → shown_at fresh place state
    (sent_bodies (if not here then None else (if late then Some (Left TooOld (bodies.Result host service code output)) else Some (sent_to (option_map (object_at (object_kind service)) found) (bodies.Result host service code output)))))
    ≡ (if here then state_of_code (object_kind service) code else state)
here_case fresh place state host service code output false late found is at recent = refl
here_case fresh place state host service code output true true found is at recent = absurd cc
here_case fresh place state host service code output true false None is at recent = absurd (none_is_not_some place at)
here_case fresh place state host service code output true false (Some one) is at recent =
    ap (λ (mine : Bool). if mine then state_of_code (object_kind service) code else state) (
    ap (is_at place) (is ∙ at) ∙ same_place place
    )
  where
    same_place : (it : ℕ) → is_at it (Some it) ≡ true
    same_place it = grind arith

one_record : (fresh : List ObjectLine) (kept : ApplierView) (place : ℕ) (host : List ℕ) (service : Option (List ℕ)) (code : ℤ) (output : List ℕ) (last : CheckResult) (index : ℕ) (body : Body) (state : State)
    → IsLast fresh kept place host service code output last
    → ((last.log_index == index) ≡ true → body ≡ bodies.Result host service code output)
    → shown_at fresh place state (sent_bodies (result_in fresh kept index body))
    ≡ (if last.log_index == index then state_of_code (object_kind service) code else state)
one_record fresh kept place host service code output last index (bodies.Result other named number words) state is own =
    either (is_at place (place_of fresh other named)) refl
  where
    target : State
    target = state_of_code (object_kind service) code

    elsewhere_not_here : (here : Bool) → (last.log_index == index) ≡ here → is_at place (place_of fresh other named) ≡ false
        → state ≡ (if here then target else state)
    elsewhere_not_here false at out = refl
    elsewhere_not_here true at out =
        let same = own at in
        let hosts : other ≡ host = cc in
        let services : named ≡ service = cc in
        let there : place_of fresh other named ≡ Some place = ap (λ one. place_of fresh one named) hosts ∙ ap (place_of fresh host) services ∙ is.fresh_place in
        let mine : is_at place (Some place) ≡ true = grind arith in
        let wrong : false ≡ true = sym out ∙ ap (is_at place) there ∙ mine in
        absurd cc

    own_code : (here : Bool) → (last.log_index == index) ≡ here → named ≡ service
        → (if here then state_of_code (object_kind named) number else state) ≡ (if here then target else state)
    own_code false at services = refl
    own_code true at services =
        let same = own at in
        let numbers : number ≡ code = cc in
        ap (λ it. state_of_code (object_kind it) number) services ∙ ap (state_of_code (object_kind service)) numbers

    either : (mine : Bool) → is_at place (place_of fresh other named) ≡ mine
        → shown_at fresh place state (sent_bodies (fate_of_result fresh kept.moment index (last_of kept other named) other named number words))
        ≡ (if last.log_index == index then target else state)
    either false out =
        elsewhere fresh place state (object_of fresh other named) other named number words index (last_of kept other named) kept.moment out
        ∙ elsewhere_not_here (last.log_index == index) refl out
    either true at =
        let there : place_of fresh other named ≡ Some place = at_place place (place_of fresh other named) at in
        let names = one_name fresh host other service named place is.fresh_place there in
        let kept_last : last_of kept other named ≡ Some last =
        ap (λ one. last_of kept one named) names.0 ∙ ap (last_of kept host) names.1 ∙ is.last_is in
        let recent : is_outdated (threshold_of fresh (object_of fresh other named)) last.moment kept.moment ≡ false =
        ap (λ one. is_outdated (threshold_of fresh (object_of fresh one named)) last.moment kept.moment) names.0
        ∙ ap (λ one. is_outdated (threshold_of fresh (object_of fresh host one)) last.moment kept.moment) names.1
        ∙ is.recent in
        ap (λ found. shown_at fresh place state (sent_bodies (fate_of_result fresh kept.moment index found other named number words))) kept_last
        ∙ here_case fresh place state other named number words (last.log_index == index)
        (is_outdated (threshold_of fresh (object_of fresh other named)) last.moment kept.moment) (place_of fresh other named) refl there recent
        ∙ own_code (last.log_index == index) refl names.1
one_record fresh kept place host service code output last index body state is own =
    no_result fresh place (last.log_index == index) (state_of_code (object_kind service) code) state (λ here. let same = own here in cc)

-- the results of a record and those after it
split : (fresh : List ObjectLine) (kept : ApplierView) (place index : ℕ) (applied : Record) (records : List Record) (state : State)
    → shown_at fresh place state (filter_map sent_of (results_from fresh kept index (applied ∷ records)))
    ≡ shown_at fresh place (shown_at fresh place state (sent_bodies (result_in fresh kept index applied.item.body)))
    (filter_map sent_of (results_from fresh kept (index + 1) records))
split fresh kept place index applied records state =
    ap (shown_at fresh place state) (filter_map-append sent_of (option_to_list (result_in fresh kept index applied.item.body)) (results_from fresh kept (index + 1) records))
    ∙ shown-append fresh place state (sent_bodies (result_in fresh kept index applied.item.body)) (filter_map sent_of (results_from fresh kept (index + 1) records))

after_last : (fresh : List ObjectLine) (kept : ApplierView) (place : ℕ) (host : List ℕ) (service : Option (List ℕ)) (code : ℤ) (output : List ℕ) (last : CheckResult) (index : ℕ) (records : List Record) (state : State)
    → IsLast fresh kept place host service code output last → last.log_index < index
    → shown_at fresh place state (filter_map sent_of (results_from fresh kept index records)) ≡ state
after_last fresh kept place host service code output last index [] state is past = refl
after_last fresh kept place host service code output last index (applied ∷ records) state is past =
    let other : (last.log_index == index) ≡ false = grind arith in
    let before : shown_at fresh place state (sent_bodies (result_in fresh kept index applied.item.body)) ≡ state =
    one_record fresh kept place host service code output last index applied.item.body state is (λ here. absurd cc)
    ∙ ap (λ (here : Bool). if here then state_of_code (object_kind service) code else state) other in
    split fresh kept place index applied records state
    ∙ ap (λ left. shown_at fresh place left (filter_map sent_of (results_from fresh kept (index + 1) records))) before
    ∙ after_last fresh kept place host service code output last (index + 1) records state is (omega arith)

up_to_last : (fresh : List ObjectLine) (kept : ApplierView) (place : ℕ) (host : List ℕ) (service : Option (List ℕ)) (code : ℤ) (output : List ℕ) (last : CheckResult) (index ahead : ℕ) (records : List Record) (applied : Record) (state : State)
    → IsLast fresh kept place host service code output last → last.log_index ≡ index + ahead → slice_get records ahead ≡ Some applied
    → applied.item.body ≡ bodies.Result host service code output
    → shown_at fresh place state (filter_map sent_of (results_from fresh kept index records)) ≡ state_of_code (object_kind service) code
up_to_last fresh kept place host service code output last index ahead [] applied state is at found own = absurd cc
up_to_last fresh kept place host service code output last index zero (first ∷ records) applied state is at found own =
    let same : first ≡ applied = cc in
    let here : (last.log_index == index) ≡ true = grind arith in
    let before : shown_at fresh place state (sent_bodies (result_in fresh kept index first.item.body)) ≡ state_of_code (object_kind service) code =
    one_record fresh kept place host service code output last index first.item.body state is
    (λ it. ap (λ (one : Record). one.item.body) same ∙ own)
    ∙ ap (λ (it : Bool). if it then state_of_code (object_kind service) code else state) here in
    split fresh kept place index first records state
    ∙ ap (λ left. shown_at fresh place left (filter_map sent_of (results_from fresh kept (index + 1) records))) before
    ∙ after_last fresh kept place host service code output last (index + 1) records (state_of_code (object_kind service) code) is (omega arith)
up_to_last fresh kept place host service code output last index (suc ahead) (first ∷ records) applied state is at found own =
    let other : (last.log_index == index) ≡ false = grind arith in
    let before : shown_at fresh place state (sent_bodies (result_in fresh kept index first.item.body)) ≡ state =
    one_record fresh kept place host service code output last index first.item.body state is (λ here. absurd cc)
    ∙ ap (λ (here : Bool). if here then state_of_code (object_kind service) code else state) other in
    split fresh kept place index first records state
    ∙ ap (λ left. shown_at fresh place left (filter_map sent_of (results_from fresh kept (index + 1) records))) before
    ∙ up_to_last fresh kept place host service code output last (index + 1) ahead records applied state is (omega arith) found own

-- ---- acknowledgements

-- what is in force
record IsInForce (fresh : List ObjectLine) (kept : ApplierView) (host : List ℕ) (service : Option (List ℕ)) : Type 0 where
  kept_place : ℕ
  made : Acknowledgement
  kept_at : place_of kept.table host service ≡ Some kept_place
  acknowledged : acknowledgement_at kept.table kept.records kept_place ≡ Some made
  recent : last_is_outdated fresh kept.moment (object_of fresh host service) (last_of kept host service) ≡ false

in_force_case : (fresh : List ObjectLine) (kept : ApplierView) (index : ℕ) (host : List ℕ) (service : Option (List ℕ)) (place : Option ℕ)
    → place_of kept.table host service ≡ place
    → is_made_by index (last_is_outdated fresh kept.moment (object_of fresh host service) (last_of kept host service))
    (option_and_then (λ (object : ObjectId). acknowledgement_at kept.table kept.records object.place) (option_map (object_at (object_kind service)) place)) ≡ true
    → IsInForce fresh kept host service
in_force_case fresh kept index host service None at is = absurd cc
in_force_case fresh kept index host service (Some place) at is = made_case (acknowledgement_at kept.table kept.records place) refl is
  where
    late : Bool
    late = last_is_outdated fresh kept.moment (object_of fresh host service) (last_of kept host service)

    not_late : (old : Bool) → not old ≡ true → old ≡ false
    not_late true same = absurd cc
    not_late false same = refl

    made_case : (made : Option Acknowledgement) → acknowledgement_at kept.table kept.records place ≡ made
        → is_made_by index late made ≡ true → IsInForce fresh kept host service
    made_case None it same = absurd cc
    made_case (Some made) it same =
        record {
          kept_place = place;
          made = made;
          kept_at = at;
          acknowledged = it;
          recent = not_late late (and_parts (made.log_index == index) (not late) same).1;
        }

-- a problem is that of a result
last_of_problem : (last : Option CheckResult) → is_problem (state_left_by last) ≡ true
    → (one : CheckResult) × (last ≡ Some one) × (is_problem one.state ≡ true)
last_of_problem None is = absurd cc
last_of_problem (Some one) is = (one, refl, is)

-- such an object has its problem on the fresh gateway
problem_again : (fresh : List ObjectLine) (kept : ApplierView) (host : List ℕ) (service : Option (List ℕ)) (place : ℕ)
    → IsInForce fresh kept host service → place_of fresh host service ≡ Some place
    → is_problem (shown_at fresh place (all_pending place) (filter_map sent_of (results_of fresh kept))) ≡ true
problem_again fresh kept host service place force there =
    let found = last_of_problem (last_result_at kept.table kept.records force.kept_place)
    (problem_at kept.table kept.records force.kept_place force.made force.acknowledged) in
    let last = found.0 in
    let from = recorded kept.table kept.records force.kept_place last found.1 in
    let names = one_name kept.table host from.host service from.service force.kept_place force.kept_at from.object in
    let last_is : last_of kept host service ≡ Some last =
    ap (λ at. option_and_then (λ (object : ObjectId). last_result_at kept.table kept.records object.place) (option_map (object_at (object_kind service)) at)) force.kept_at
    ∙ found.1 in
    let recent : is_outdated (threshold_of fresh (object_of fresh host service)) last.moment kept.moment ≡ false =
    sym (ap (last_is_outdated fresh kept.moment (object_of fresh host service)) last_is) ∙ force.recent in
    let body : from.applied.item.body ≡ bodies.Result host service from.code from.output =
    from.body ∙ ap (λ one. bodies.Result one from.service from.code from.output) names.0
    ∙ ap (λ one. bodies.Result host one from.code from.output) names.1 in
    let is : IsLast fresh kept place host service from.code from.output last =
    record { fresh_place = there; last_is = last_is; recent = recent } in
    ap is_problem (
    up_to_last fresh kept place host service from.code from.output last 0 last.log_index kept.records from.applied (all_pending place) is
    (omega arith) from.at body
    ∙ ap (λ one. state_of_code (object_kind one) from.code) (sym names.1)
    ∙ sym from.state
    )
    ∙ found.2

abbrev shown_of : List ObjectLine → ApplierView → ℕ → State
shown_of fresh kept place = shown_at fresh place (all_pending place) (filter_map sent_of (results_of fresh kept))

acked_body : (fresh : List ObjectLine) (kept : ApplierView) (index : ℕ) (host : List ℕ) (service : Option (List ℕ)) (sticky notify persistent : ℕ) (author text : List ℕ)
    → is_in_force fresh kept index host service ≡ true
    → SendsOnly (IsAcked fresh (shown_of fresh kept)) (sent_to (object_of fresh host service) (bodies.Acknowledge host service sticky notify persistent author text))
acked_body fresh kept index host service sticky notify persistent author text is = found (place_of fresh host service) refl
  where
    force : IsInForce fresh kept host service
    force = in_force_case fresh kept index host service (place_of kept.table host service) refl is

    found : (place : Option ℕ) → place_of fresh host service ≡ place
        → SendsOnly (IsAcked fresh (shown_of fresh kept)) (
        sent_to (option_map (object_at (object_kind service)) place) (bodies.Acknowledge host service sticky notify persistent author text)
        )
    found None at = tt
    found (Some place) at = (ap is_some at, λ one there. problem_again fresh kept host service one force there)

pub acked_comment : (fresh : List ObjectLine) (shown : ℕ → State) (object : Option ObjectId) (host : List ℕ) (service : Option (List ℕ)) (persistent : ℕ) (author text : List ℕ)
    → SendsOnly (IsAcked fresh shown) (sent_to object (bodies.AddComment host service persistent author text))
acked_comment fresh shown None host service persistent author text = tt
acked_comment fresh shown (Some object) host service persistent author text = tt

acked_comment_fate : (fresh : List ObjectLine) (kept : ApplierView) (index : ℕ) (host : List ℕ) (service : Option (List ℕ)) (persistent : ℕ) (author text : List ℕ)
    → MaySendOnly (IsAcked fresh (shown_of fresh kept)) (comment_fate fresh kept index host service persistent author text)
acked_comment_fate fresh kept index host service persistent author text =
    choice (IsAcked fresh (shown_of fresh kept)) (not (has_comment index (comments_in kept))) None
    (Some (sent_to (object_of fresh host service) (bodies.AddComment host service persistent author text))) tt
    (acked_comment fresh (shown_of fresh kept) (object_of fresh host service) host service persistent author text)

acked_setting : (fresh : List ObjectLine) (shown : ℕ → State) (object : Option ObjectId) (host : List ℕ) (service : Option (List ℕ))
    → SendsOnly (IsAcked fresh shown) (sent_to object (bodies.Passive host service false))
acked_setting fresh shown None host service = tt
acked_setting fresh shown (Some object) host service = tt

choice_if : (good : Body → Type 0) (test : Bool) (one other : Option Fate) → MaySendOnly good one → (test ≡ true → MaySendOnly good other)
    → MaySendOnly good (if not test then one else other)
choice_if good true one other first second = second refl
choice_if good false one other first second = first

acked_other : (fresh : List ObjectLine) (kept : ApplierView) (index : ℕ) (body : Body)
    → MaySendOnly (IsAcked fresh (shown_of fresh kept)) (other_in fresh kept index body)
acked_other fresh kept index (bodies.AddComment host service persistent author text) =
    acked_comment_fate fresh kept index host service persistent author text
acked_other fresh kept index (bodies.Acknowledge host service sticky notify persistent author text) =
    choice_if (IsAcked fresh (shown_of fresh kept)) (is_in_force fresh kept index host service)
    (comment_fate fresh kept index host service persistent author text)
    (Some (sent_to (object_of fresh host service) (bodies.Acknowledge host service sticky notify persistent author text)))
    (acked_comment_fate fresh kept index host service persistent author text)
    (acked_body fresh kept index host service sticky notify persistent author text)
acked_other fresh kept index (bodies.Passive host service false) =
    choice (IsAcked fresh (shown_of fresh kept)) (not (is_disabled kept host service)) None
    (Some (sent_to (object_of fresh host service) (bodies.Passive host service false))) tt
    (acked_setting fresh (shown_of fresh kept) (object_of fresh host service) host service)
acked_other fresh kept index body = tt

acked_by : (fresh : List ObjectLine) (shown : ℕ → State) (line : ObjectLine) (plan : Scheduled) (terms : Result Terms Cause) (body : Body)
    → MaySendOnly (IsAcked fresh shown) (fate_by line plan terms body)
acked_by fresh shown line plan (Ok one) bodies.Shutdown = tt
acked_by fresh shown line plan (Err cause) bodies.Shutdown = tt
acked_by fresh shown line plan terms body = tt

acked_in : (fresh : List ObjectLine) (shown : ℕ → State) (line : Option ObjectLine) (plan : Scheduled) (terms : Result Terms Cause) (applied : Option Record)
    → MaySendOnly (IsAcked fresh shown) (fate_in line plan terms applied)
acked_in fresh shown None plan terms applied = tt
acked_in fresh shown (Some line) plan terms None = tt
acked_in fresh shown (Some line) plan terms (Some applied) = acked_by fresh shown line plan terms applied.item.body

acked_entries : (fresh : List ObjectLine) (shown : ℕ → State) (kept : ApplierView) (left : List Renewal)
    → AllByRecursion (λ (one : Renewal). MaySendOnly (IsAcked fresh shown) (entry_fate kept one)) left
acked_entries fresh shown kept [] = tt
acked_entries fresh shown kept (one ∷ left) = (
  acked_in fresh shown (slice_get kept.table one.entry.scheduled.object.place) one.entry.scheduled.plan one.terms
      (slice_get kept.records one.entry.scheduled.plan.log_index),
  acked_entries fresh shown kept left,
)

-- ---- the plan

pub log_accepted : (fresh : List ObjectLine) (kept : ApplierView) (until : Moment) (plan : Plan) → IsFaultless fresh
    → plan.results.items ≡ results_of fresh kept → plan.others.items ≡ others_of fresh kept until
    → AreSchedulable until 0 (filter_map sent_terms plan.others.items) → first_refusal fresh until (commands_of plan) ≡ None
log_accepted fresh kept until plan good results others schedulable =
    let acked : AllByRecursion (SendsOnly (IsAcked fresh (shown_of fresh kept))) (others_of fresh kept until) =
    all_others (IsAcked fresh (shown_of fresh kept)) fresh kept 0 kept.records (renewals_of fresh kept until) (acked_other fresh kept)
    (acked_entries fresh (shown_of fresh kept) kept (renewals_of fresh kept until)) in
    let shown : AllByRecursion (SendsOnly (IsAcked fresh (shown_by fresh plan))) (others_of fresh kept until) =
    subst (λ fates. AllByRecursion (SendsOnly (IsAcked fresh (λ place. shown_at fresh place (all_pending place) (filter_map sent_of fates)))) (others_of fresh kept until))
    (sym results) acked in
    accepts_all fresh until (commands_of plan) good (
    plan_apt fresh until true plan
    (subst (AllByRecursion (SendsOnly (IsPlainResult fresh))) (sym results) (all_results fresh kept 0 kept.records))
    (subst (AllByRecursion (SendsOnly (IsPlain fresh))) (sym others) (log_plain fresh kept until))
    (λ sure. subst (AllByRecursion (SendsOnly (IsAcked fresh (shown_by fresh plan)))) (sym others) shown)
    schedulable
    )
