-- A gateway accepts all that is sent of a kept page: an object that is acknowledged has its problem again.
use Rattle.std.proofs.Common.{◌≡◌, ℕ, zero, suc, ℤ, ◌+◌, ◌<◌, Bool, true, false, List, [], ◌∷◌, ◌++◌, map, find, filter_map, refl, sym, ap, ◌∙◌, subst, arith, inl, inr}
use Rattle.std.specs.Prelude.{not, ◌||◌, pos, slice_get, Option, Some, None, IfSome, option_map, is_some, Result, Ok, Err, if◌then◌else◌}
use Rattle.std.specs.List.{AllByRecursion}
use Rattle.std.specs.Option.{option_to_list}
use Rattle.std.specs.Str.{bytes_eq}
use Rattle.std.specs.Cmp.Lexicographic.{bytes_decides}
use Rattle.std.proofs.lemmas.Bool.{and_parts, cases_Bool}
use Rattle.std.proofs.lemmas.List.Elements.{filter_map-append}
use Rattle.std.proofs.lemmas.Option.{slice_get-map}
use Rattle.gate_model.specs.declared.record.Moment.{Moment}
use Rattle.gate_model.specs.declared.object.Kind.{Kind}
use Rattle.gate_model.specs.declared.object.Kind.TheVariants.{Host, Service}
use Rattle.gate_model.specs.declared.object.ObjectLine.{ObjectLine}
use Rattle.gate_model.specs.declared.object.ObjectId.{ObjectId}
use Rattle.gate_model.specs.declared.state.State.{State}
use Rattle.gate_model.specs.declared.state.State.TheVariants as states
use Rattle.gate_model.specs.State.{state_of_code, is_problem}
use Rattle.gate_model.specs.Table.{place_of, object_kind, object_at}
use Rattle.gate_table.specs.Faults.{IsFaultless}
use Rattle.status_reading.specs.declared.page.StatusPage.{StatusPage}
use Rattle.status_reading.specs.declared.rows.ShownObject.{ShownObject}
use Rattle.status_reading.specs.declared.rows.ShownComment.{ShownComment}
use Rattle.status_reading.specs.declared.rows.ShownDowntime.{ShownDowntime}
use Rattle.status_reading.specs.declared.rows.ShownAcknowledgement.{ShownAcknowledgement}
use Rattle.status_reading.specs.declared.rows.ShownAcknowledgement.TheVariants.{Missing, Normal, Sticky}
use Rattle.status_reading.specs.Plain.{plain_bytes}
use Rattle.status_reading.specs.RowFaults.{service_name, line_of, table_of, IsSound}
use Rattle.status_reading.specs.Rows.{object_view, page_view}
use Rattle.status_reading.proofs.BareSteps.{own_place}
use Rattle.status_reading.proofs.EachSteps.{each_at}
use Rattle.restore_plan.specs.declared.entries.Terms.{Terms}
use Rattle.restore_plan.specs.declared.page_plan.RowRenewal.{RowRenewal}
use Rattle.restore_plan.specs.declared.fates.Fate.{Fate}
use Rattle.restore_plan.specs.declared.fates.Fate.TheVariants.{Left}
use Rattle.restore_plan.specs.declared.fates.Cause.{Cause}
use Rattle.restore_plan.specs.declared.fates.Cause.TheVariants.{TooOld}
use Rattle.restore_plan.specs.declared.plan.Plan.{Plan}
use Rattle.restore_plan.specs.Fates.{is_outdated, threshold_of, sent_to}
use Rattle.restore_plan.specs.Entries.{with_id}
use Rattle.restore_plan.specs.PagePlan.{plain_service, object_of_fields, code_of, result_of, fate_of_object, object_fate, object_fates, has_fields, has_no_result, mark_in, mark_of, is_of_acknowledgement, has_acknowledgement, mark_by, number, acknowledgement_body, user_body, comment_body, comment_row_fate, is_of_downtime, own_fates, row_terms, row_renewals_from, row_renewals_of, row_fate, page_others}
use Rattle.restore_plan.specs.Plan.{sent_of, commands_of}
use Rattle.restore_plan.specs.Scheduling.{sent_terms, AreSchedulable}
use Rattle.restore_plan.specs.Acceptance.{is_acknowledged, AcknowledgesProblems}
use Rattle.restore_plan.specs.Rehearsal.{first_refusal}
use Rattle.restore_plan.proofs.AcceptSteps.{is_at, all_pending, accepts_all}
use Rattle.restore_plan.proofs.PlainSteps.{IsPlainResult, IsPlain, IsAcked, SendsOnly, shown_at, shown_by, plan_apt}
use Rattle.restore_plan.proofs.PlainRows.{all_rows, all_others, page_plain}
use Rattle.restore_plan.proofs.AckSteps.{one_name, shown-append, sent_bodies, at_place, acked_comment}

-- ---- one row

abbrev host_of : ShownObject → List ℕ
host_of row = plain_bytes row.host.now

abbrev service_of : ShownObject → Option (List ℕ)
service_of row = plain_service row.service.now

-- the row is of the fresh gateway's object at this place
abbrev is_row_at : List ObjectLine → ℕ → ShownObject → Bool
is_row_at fresh place row = is_at place (place_of fresh (host_of row) (service_of row))

-- a row of another object changes nothing here
elsewhere : (fresh : List ObjectLine) (now : Moment) (place : ℕ) (state : State) (row : ShownObject) (code : Option ℤ) (last : Option ℕ)
    → is_row_at fresh place row ≡ false → shown_at fresh place state (sent_bodies (fate_of_object fresh now row code last)) ≡ state
elsewhere fresh now place state row None None is = refl
elsewhere fresh now place state row None (Some last) is = refl
elsewhere fresh now place state row (Some code) None is = refl
elsewhere fresh now place state row (Some code) (Some last) is =
    either (is_outdated (threshold_of fresh (object_of_fields fresh row.host.now row.service.now)) (record { 0 = last }) now)
    (object_of_fields fresh row.host.now row.service.now)
  where
    either : (late : Bool) (found : Option ObjectId)
        → shown_at fresh place state (sent_bodies (Some (if late then Left TooOld (result_of row code) else sent_to found (result_of row code)))) ≡ state
    either true found = refl
    either false None = refl
    either false (Some found) = ap (λ (mine : Bool). if mine then state_of_code (object_kind (service_of row)) code else state) is

-- a row whose result is sent to the fresh gateway's object at this place
record IsSentTo (fresh : List ObjectLine) (now : Moment) (place : ℕ) (row : ShownObject) (code : ℤ) (last : ℕ) : Type 0 where
  coded : code_of row.state ≡ Some code
  last_is : row.last ≡ Some last
  recent : is_outdated (threshold_of fresh (object_of_fields fresh row.host.now row.service.now)) (record { 0 = last }) now ≡ false
  there : place_of fresh (host_of row) (service_of row) ≡ Some place

own_row : (fresh : List ObjectLine) (now : Moment) (place : ℕ) (state : State) (row : ShownObject) (code : ℤ) (last : ℕ)
    → IsSentTo fresh now place row code last
    → shown_at fresh place state (sent_bodies (object_fate fresh now row)) ≡ state_of_code (object_kind (service_of row)) code
own_row fresh now place state row code last is =
    ap (λ it. shown_at fresh place state (sent_bodies (fate_of_object fresh now row it row.last))) is.coded
    ∙ ap (λ it. shown_at fresh place state (sent_bodies (fate_of_object fresh now row (Some code) it))) is.last_is
    ∙ ap (λ (late : Bool). shown_at fresh place state (sent_bodies (Some (if late then Left TooOld (result_of row code) else sent_to (object_of_fields fresh row.host.now row.service.now) (result_of row code))))) is.recent
    ∙ ap (λ at. shown_at fresh place state (sent_bodies (Some (sent_to (option_map (object_at (object_kind (service_of row))) at) (result_of row code))))) is.there
    ∙ ap (λ (mine : Bool). if mine then state_of_code (object_kind (service_of row)) code else state) (ap (is_at place) is.there ∙ same_place place)
  where
    same_place : (it : ℕ) → is_at it (Some it) ≡ true
    same_place it = grind arith

-- ---- all rows

fates_more : (fresh : List ObjectLine) (now : Moment) (row : ShownObject) (rows : List ShownObject)
    → object_fates fresh now (row ∷ rows) ≡ option_to_list (object_fate fresh now row) ++ object_fates fresh now rows
fates_more fresh now row rows = either (object_fate fresh now row) refl
  where
    either : (fate : Option Fate) → object_fate fresh now row ≡ fate
        → object_fates fresh now (row ∷ rows) ≡ option_to_list fate ++ object_fates fresh now rows
    either None is = rw is
    either (Some fate) is = rw is

abbrev shown_of : List ObjectLine → Moment → ℕ → State → List ShownObject → State
shown_of fresh now place state rows = shown_at fresh place state (filter_map sent_of (object_fates fresh now rows))

split : (fresh : List ObjectLine) (now : Moment) (place : ℕ) (state : State) (row : ShownObject) (rows : List ShownObject)
    → shown_of fresh now place state (row ∷ rows)
    ≡ shown_of fresh now place (shown_at fresh place state (sent_bodies (object_fate fresh now row))) rows
split fresh now place state row rows =
    ap (λ fates. shown_at fresh place state (filter_map sent_of fates)) (fates_more fresh now row rows)
    ∙ ap (shown_at fresh place state) (filter_map-append sent_of (option_to_list (object_fate fresh now row)) (object_fates fresh now rows))
    ∙ shown-append fresh place state (sent_bodies (object_fate fresh now row)) (filter_map sent_of (object_fates fresh now rows))

after_row : (fresh : List ObjectLine) (now : Moment) (place : ℕ) (state : State) (rows : List ShownObject)
    → ((index : ℕ) (row : ShownObject) → slice_get rows index ≡ Some row → is_row_at fresh place row ≡ false)
    → shown_of fresh now place state rows ≡ state
after_row fresh now place state [] other = refl
after_row fresh now place state (row ∷ rows) other =
    split fresh now place state row rows
    ∙ ap (λ it. shown_of fresh now place it rows) (elsewhere fresh now place state row (code_of row.state) row.last (other 0 row refl))
    ∙ after_row fresh now place state rows (λ index one is. other (suc index) one is)

up_to_row : (fresh : List ObjectLine) (now : Moment) (place : ℕ) (state : State) (rows : List ShownObject) (ahead : ℕ) (row : ShownObject) (code : ℤ) (last : ℕ)
    → slice_get rows ahead ≡ Some row → IsSentTo fresh now place row code last
    → ((index : ℕ) (one : ShownObject) → ahead < index → slice_get rows index ≡ Some one → is_row_at fresh place one ≡ false)
    → shown_of fresh now place state rows ≡ state_of_code (object_kind (service_of row)) code
up_to_row fresh now place state [] ahead row code last at is other = absurd cc
up_to_row fresh now place state (first ∷ rows) zero row code last at is other =
    let same : first ≡ row = cc in
    split fresh now place state first rows
    ∙ ap (λ it. shown_of fresh now place (shown_at fresh place state (sent_bodies (object_fate fresh now it))) rows) same
    ∙ ap (λ it. shown_of fresh now place it rows) (own_row fresh now place state row code last is)
    ∙ after_row fresh now place (state_of_code (object_kind (service_of row)) code) rows (λ index one found. other (suc index) one (omega arith) found)
up_to_row fresh now place state (first ∷ rows) (suc ahead) row code last at is other =
    split fresh now place state first rows
    ∙ up_to_row fresh now place (shown_at fresh place state (sent_bodies (object_fate fresh now first))) rows ahead row code last at is
    (λ index one more found. other (suc index) one (omega arith) found)

-- ---- the names of a page are those of a table

same_service : (field : List ℕ) → service_name field ≡ plain_service field
same_service [] = refl
same_service (byte ∷ field) = refl

place_on_page : (page : StatusPage) (index : ℕ) (row : ShownObject) → IsSound (page_view page) → slice_get page.objects.items index ≡ Some row
    → place_of (table_of (page_view page)) (host_of row) (service_of row) ≡ Some index
place_on_page page index row sound at =
    ap (place_of (table_of (page_view page)) (host_of row)) (sym (same_service row.service.now))
    ∙ own_place (table_of (page_view page)) index (line_of (object_view row)) sound.table (
    slice_get-map line_of (map object_view page.objects.items) index
    ∙ ap (option_map line_of) (slice_get-map object_view page.objects.items index ∙ ap (option_map object_view) at)
    )

-- no other row is of the same object
other_row : (fresh : List ObjectLine) (page : StatusPage) (place index other : ℕ) (row one : ShownObject) → IsSound (page_view page)
    → place_of fresh (host_of row) (service_of row) ≡ Some place → slice_get page.objects.items index ≡ Some row
    → slice_get page.objects.items other ≡ Some one → index < other → is_row_at fresh place one ≡ false
other_row fresh page place index other row one sound there at found more = elim (cases_Bool (is_row_at fresh place one)) [
  | inl same ↦
      let names = one_name fresh (host_of row) (host_of one) (service_of row) (service_of one) place there
      (at_place place (place_of fresh (host_of one) (service_of one)) same) in
      let both : Some index ≡ Some other =
      sym (place_on_page page index row sound at)
      ∙ ap (λ it. place_of (table_of (page_view page)) it (service_of row)) (sym names.0)
      ∙ ap (place_of (table_of (page_view page)) (host_of one)) (sym names.1)
      ∙ place_on_page page other one sound found in
      let equal : index ≡ other = cc in
      absurd (omega arith)
  | inr different ↦ different
]

-- ---- the row of an acknowledged object

found_at : {A : Type 0} (test : A → Bool) (items : List A) (item : A) → find test items ≡ Some item
    → (index : ℕ) × (slice_get items index ≡ Some item) × (test item ≡ true)
found_at test [] item is = absurd cc
found_at test (first ∷ items) item is = either (test first) refl (found_at test items item)
  where
    either : (passes : Bool) → test first ≡ passes
        → (find test items ≡ Some item → (index : ℕ) × (slice_get items index ≡ Some item) × (test item ≡ true))
        → (index : ℕ) × (slice_get (first ∷ items) index ≡ Some item) × (test item ≡ true)
    either true same later =
        let one : Some first ≡ Some item = sym (ap (λ (it : Bool). if it then Some first else find test items) same) ∙ is in
        let equal : first ≡ item = cc in
        (0, one, ap test (sym equal) ∙ same)
    either false same later =
        let rest = later (sym (ap (λ (it : Bool). if it then Some first else find test items) same) ∙ is) in
        (suc rest.0, rest.1, rest.2)

-- a problem's least code means a problem again
problem_code : (one : State) → is_problem one ≡ true
    → (code : ℤ) × (code_of one ≡ Some code) × ((kind : Kind) → is_problem (state_of_code kind code) ≡ true)
problem_code states.Pending is = absurd cc
problem_code states.Ok is = absurd cc
problem_code states.Warning is = (pos 1, refl, λ kind. elim kind as (λ it. is_problem (state_of_code it (pos 1)) ≡ true) [ Host ↦ refl | Service ↦ refl ])
problem_code states.Critical is = (pos 2, refl, λ kind. elim kind as (λ it. is_problem (state_of_code it (pos 2)) ≡ true) [ Host ↦ refl | Service ↦ refl ])
problem_code states.Unknown is = (pos 3, refl, λ kind. elim kind as (λ it. is_problem (state_of_code it (pos 3)) ≡ true) [ Host ↦ refl | Service ↦ refl ])
problem_code states.Up is = absurd cc
problem_code states.Down is = (pos 1, refl, λ kind. elim kind as (λ it. is_problem (state_of_code it (pos 1)) ≡ true) [ Host ↦ refl | Service ↦ refl ])
problem_code states.Unreachable is = (pos 2, refl, λ kind. elim kind as (λ it. is_problem (state_of_code it (pos 2)) ≡ true) [ Host ↦ refl | Service ↦ refl ])

-- the row of the object of this comment, which is acknowledged, and whose result is recent
record IsMarked (fresh : List ObjectLine) (now : Moment) (objects : List ShownObject) (row : ShownComment) : Type 0 where
  object : ShownObject
  index : ℕ
  at : slice_get objects index ≡ Some object
  host : object.host.now ≡ row.host.now
  service : object.service.now ≡ row.service.now
  last : ℕ
  last_is : object.last ≡ Some last
  recent : is_outdated (threshold_of fresh (object_of_fields fresh row.host.now row.service.now)) (record { 0 = last }) now ≡ false
  acknowledged : is_acknowledged object.acknowledgement ≡ true

marked : (fresh : List ObjectLine) (now : Moment) (objects : List ShownObject) (row : ShownComment) (later : List ShownComment) (mark : ShownAcknowledgement)
    → mark_by (threshold_of fresh (object_of_fields fresh row.host.now row.service.now)) now objects row later ≡ Some mark
    → is_acknowledged mark ≡ true → IsMarked fresh now objects row
marked fresh now objects row later mark is acknowledged =
    of_mark (not (is_of_acknowledgement row.source) || has_acknowledgement row later) is
  where
    threshold : ℕ
    threshold = threshold_of fresh (object_of_fields fresh row.host.now row.service.now)

    of_last : (object : ShownObject) (last : Option ℕ) → object.last ≡ last → find (has_fields row.host.now row.service.now) objects ≡ Some object
        → (if has_no_result threshold now last then Missing else object.acknowledgement) ≡ mark → IsMarked fresh now objects row
    of_last object None at found same = absurd (let none : is_acknowledged Missing ≡ true = ap is_acknowledged same ∙ acknowledged in cc)
    of_last object (Some last) at found same = of_late (is_outdated threshold (record { 0 = last }) now) refl same
      where
        of_late : (late : Bool) → is_outdated threshold (record { 0 = last }) now ≡ late
            → (if late then Missing else object.acknowledgement) ≡ mark → IsMarked fresh now objects row
        of_late true is_late it = absurd (let none : is_acknowledged Missing ≡ true = ap is_acknowledged it ∙ acknowledged in cc)
        of_late false is_late it =
            let place = found_at (has_fields row.host.now row.service.now) objects object found in
            let names = and_parts (bytes_eq object.host.now row.host.now) (bytes_eq object.service.now row.service.now) place.2 in
            record {
              object = object;
              index = place.0;
              at = place.1;
              host = (bytes_decides object.host.now row.host.now).0 names.0;
              service = (bytes_decides object.service.now row.service.now).0 names.1;
              last = last;
              last_is = at;
              recent = is_late;
              acknowledged = ap is_acknowledged it ∙ acknowledged;
            }

    of_object : (object : Option ShownObject) → find (has_fields row.host.now row.service.now) objects ≡ object
        → option_map (mark_in threshold now) object ≡ Some mark → IsMarked fresh now objects row
    of_object None found same = absurd cc
    of_object (Some object) found same =
        let it : mark_in threshold now object ≡ mark = cc in
        of_last object object.last refl found it

    of_mark : (none : Bool) → (if none then None else mark_of threshold now objects row) ≡ Some mark → IsMarked fresh now objects row
    of_mark true same = absurd cc
    of_mark false same = of_object (find (has_fields row.host.now row.service.now) objects) refl same

problem_again : (fresh : List ObjectLine) (now : Moment) (page : StatusPage) (row : ShownComment) (place : ℕ) → IsSound (page_view page)
    → AcknowledgesProblems page → IsMarked fresh now page.objects.items row
    → place_of fresh (plain_bytes row.host.now) (plain_service row.service.now) ≡ Some place
    → is_problem (shown_of fresh now place (all_pending place) page.objects.items) ≡ true
problem_again fresh now page row place sound problems is there =
    let object = is.object in
    let here : IfSome (Some object) (λ one. is_acknowledged one.acknowledgement ≡ true → is_problem one.state ≡ true) =
    subst (λ it. IfSome it (λ one. is_acknowledged one.acknowledgement ≡ true → is_problem one.state ≡ true)) is.at
    (each_at (λ one. is_acknowledged one.acknowledgement ≡ true → is_problem one.state ≡ true) page.objects.items is.index problems) in
    let code = problem_code object.state (here is.acknowledged) in
    let fresh_place : place_of fresh (host_of object) (service_of object) ≡ Some place =
    ap (λ it. place_of fresh (plain_bytes it) (service_of object)) is.host
    ∙ ap (λ it. place_of fresh (plain_bytes row.host.now) (plain_service it)) is.service ∙ there in
    let recent : is_outdated (threshold_of fresh (object_of_fields fresh object.host.now object.service.now)) (record { 0 = is.last }) now ≡ false =
    ap (λ it. is_outdated (threshold_of fresh (object_of_fields fresh it object.service.now)) (record { 0 = is.last }) now) is.host
    ∙ ap (λ it. is_outdated (threshold_of fresh (object_of_fields fresh row.host.now it)) (record { 0 = is.last }) now) is.service
    ∙ is.recent in
    let sent : IsSentTo fresh now place object code.0 is.last =
    record { coded = code.1; last_is = is.last_is; recent = recent; there = fresh_place } in
    ap is_problem (
    up_to_row fresh now place (all_pending place) page.objects.items is.index object code.0 is.last is.at sent
    (λ index one more found. other_row fresh page place is.index index object one sound fresh_place is.at found more)
    )
    ∙ code.2 (object_kind (service_of object))

-- ---- the fates of a page

module _ (fresh : List ObjectLine) (now : Moment) (page : StatusPage) (sound : IsSound (page_view page)) (problems : AcknowledgesProblems page) where
  abbrev page_shown : ℕ → State
  page_shown place = shown_of fresh now place (all_pending place) page.objects.items

  acked_body : (row : ShownComment) (sticky : ℕ) → IsMarked fresh now page.objects.items row
      → SendsOnly (IsAcked fresh page_shown) (sent_to (object_of_fields fresh row.host.now row.service.now) (acknowledgement_body row sticky))
  acked_body row sticky is = found (place_of fresh (plain_bytes row.host.now) (plain_service row.service.now)) refl
    where
      found : (place : Option ℕ) → place_of fresh (plain_bytes row.host.now) (plain_service row.service.now) ≡ place
          → SendsOnly (IsAcked fresh page_shown) (
          sent_to (option_map (object_at (object_kind (plain_service row.service.now))) place) (acknowledgement_body row sticky)
          )
      found None at = tt
      found (Some place) at = (ap is_some at, λ one there. problem_again fresh now page row one sound problems is there)

  acked_user : (row : ShownComment)
      → SendsOnly (IsAcked fresh page_shown) (sent_to (object_of_fields fresh row.host.now row.service.now) (user_body row))
  acked_user row =
      acked_comment fresh page_shown (object_of_fields fresh row.host.now row.service.now) (plain_bytes row.host.now)
      (plain_service row.service.now) (number row.persistent) (plain_bytes row.author.now) (plain_bytes row.text.now)

  acked_mark : (row : ShownComment) (later : List ShownComment) (mark : Option ShownAcknowledgement)
      → mark_by (threshold_of fresh (object_of_fields fresh row.host.now row.service.now)) now page.objects.items row later ≡ mark
      → SendsOnly (IsAcked fresh page_shown) (sent_to (object_of_fields fresh row.host.now row.service.now) (comment_body mark row))
  acked_mark row later None is = acked_user row
  acked_mark row later (Some Missing) is = acked_user row
  acked_mark row later (Some Normal) is = acked_body row 1 (marked fresh now page.objects.items row later Normal is refl)
  acked_mark row later (Some Sticky) is = acked_body row 2 (marked fresh now page.objects.items row later Sticky is refl)

  acked_own : (row : ShownComment) (later : List ShownComment)
      → AllByRecursion (SendsOnly (IsAcked fresh page_shown)) (own_fates fresh now page.objects.items row later)
  acked_own row later = either (is_of_downtime row.source)
    where
      either : (of_entry : Bool) → AllByRecursion (SendsOnly (IsAcked fresh page_shown)) (
          if of_entry then [] else comment_row_fate fresh now page.objects.items row later ∷ []
          )
      either true = tt
      either false =
          let mark = mark_by (threshold_of fresh (object_of_fields fresh row.host.now row.service.now)) now page.objects.items row later in
          (acked_mark row later mark refl, tt)

  acked_row : (row : ShownDowntime) (terms : Result Terms Cause) → SendsOnly (IsAcked fresh page_shown) (row_fate (record { row = row; terms = terms }))
  acked_row row (Err cause) = tt
  acked_row row (Ok one) = tt

  acked_rows : (until : Moment) (sent : List ℕ) (rows : List ShownDowntime)
      → AllByRecursion (λ (one : RowRenewal). SendsOnly (IsAcked fresh page_shown) (row_fate one)) (row_renewals_from fresh now until sent rows)
  acked_rows until sent [] = tt
  acked_rows until sent (row ∷ rows) =
      let terms = row_terms fresh now until sent row in
      (acked_row row terms, acked_rows until (with_id sent row.id terms) rows)

  pub all_accepted : (until : Moment) (plan : Plan) → IsFaultless fresh → plan.results.items ≡ object_fates fresh now page.objects.items
      → plan.others.items ≡ page_others fresh now until page → AreSchedulable until 0 (filter_map sent_terms plan.others.items)
      → first_refusal fresh until (commands_of plan) ≡ None
  all_accepted until plan good results others schedulable =
      let acked : AllByRecursion (SendsOnly (IsAcked fresh page_shown)) (page_others fresh now until page) =
      all_others (IsAcked fresh page_shown) fresh now page.objects.items page.comments.items (row_renewals_of fresh now until page.downtimes.items)
      acked_own (acked_rows until [] page.downtimes.items) in
      let shown : AllByRecursion (SendsOnly (IsAcked fresh (shown_by fresh plan))) (page_others fresh now until page) =
      subst (λ fates. AllByRecursion (SendsOnly (IsAcked fresh (λ place. shown_at fresh place (all_pending place) (filter_map sent_of fates)))) (page_others fresh now until page))
      (sym results) acked in
      accepts_all fresh until (commands_of plan) good (
      plan_apt fresh until true plan
      (subst (AllByRecursion (SendsOnly (IsPlainResult fresh))) (sym results) (all_rows fresh now page.objects.items))
      (subst (AllByRecursion (SendsOnly (IsPlain fresh))) (sym others) (page_plain fresh now until page))
      (λ sure. subst (AllByRecursion (SendsOnly (IsAcked fresh (shown_by fresh plan)))) (sym others) shown)
      schedulable
      )
