-- What is sent of a kept page can be applied at one moment.
use Rattle.std.proofs.Common.{◌≡◌, ℕ, ℤ, Bool, true, false, List, [], ◌∷◌, ◌++◌, take, drop, map, filter_map, refl, sym, subst}
use Rattle.std.specs.Prelude.{Option, Some, None, is_some, Result, Ok, Err, if◌then◌else◌}
use Rattle.std.specs.List.{AllByRecursion}
use Rattle.gate_model.specs.declared.record.Moment.{Moment}
use Rattle.gate_model.specs.declared.object.ObjectLine.{ObjectLine}
use Rattle.gate_model.specs.declared.submission.Body.{Body}
use Rattle.gate_table.specs.Faults.{IsFaultless}
use Rattle.status_reading.specs.declared.page.StatusPage.{StatusPage}
use Rattle.status_reading.specs.declared.rows.ShownObject.{ShownObject}
use Rattle.status_reading.specs.declared.rows.ShownComment.{ShownComment}
use Rattle.status_reading.specs.declared.rows.ShownDowntime.{ShownDowntime}
use Rattle.status_reading.specs.declared.rows.ShownAcknowledgement.{ShownAcknowledgement}
use Rattle.status_reading.specs.declared.rows.ShownAcknowledgement.TheVariants.{Missing, Normal, Sticky}
use Rattle.status_reading.specs.Plain.{plain_bytes}
use Rattle.status_reading.proofs.EachSteps.{each_append}
use Rattle.restore_plan.specs.declared.entries.Terms.{Terms}
use Rattle.restore_plan.specs.declared.page_plan.RowRenewal.{RowRenewal}
use Rattle.restore_plan.specs.declared.fates.Fate.{Fate}
use Rattle.restore_plan.specs.declared.fates.Fate.TheVariants.{Left}
use Rattle.restore_plan.specs.declared.fates.Cause.{Cause}
use Rattle.restore_plan.specs.declared.fates.Cause.TheVariants.{TooOld}
use Rattle.restore_plan.specs.declared.plan.Plan.{Plan}
use Rattle.restore_plan.specs.Fates.{is_outdated, threshold_of, sent_to}
use Rattle.restore_plan.specs.Entries.{with_id}
use Rattle.restore_plan.specs.PagePlan.{plain_service, object_of_fields, code_of, result_of, fate_of_object, object_fate, object_fates, mark_by, comment_body, own_fates, is_of_downtime, comment_row_fate, plan_of_row, row_terms, row_renewals_from, row_renewals_of, row_fate, taken_by, others_among, page_others}
use Rattle.restore_plan.specs.Plan.{commands_of}
use Rattle.restore_plan.specs.Scheduling.{sent_terms, AreSchedulable}
use Rattle.restore_plan.specs.Acceptance.{AcceptsOthers}
use Rattle.restore_plan.proofs.TermSteps.{renewed}
use Rattle.restore_plan.proofs.AcceptSteps.{IsKnown}
use Rattle.restore_plan.proofs.PlainSteps.{IsPlainResult, IsPlain, SendsOnly, MaySendOnly, sent_good, known_place, all_take, all_drop, plan_accepted}

-- ---- results

row_result : (fresh : List ObjectLine) (now : Moment) (row : ShownObject) (code : Option ℤ) (last : Option ℕ)
    → MaySendOnly (IsPlainResult fresh) (fate_of_object fresh now row code last)
unfolding IsPlainResult
row_result fresh now row None None = tt
row_result fresh now row None (Some last) = tt
row_result fresh now row (Some code) None = tt
row_result fresh now row (Some code) (Some last) =
    either (is_outdated (threshold_of fresh (object_of_fields fresh row.host.now row.service.now)) (record { 0 = last }) now)
  where
    body : Body
    body = result_of row code

    sent : Fate
    sent = sent_to (object_of_fields fresh row.host.now row.service.now) body

    either : (late : Bool) → SendsOnly (IsPlainResult fresh) (if late then Left TooOld body else sent)
    either true = tt
    either false =
        sent_good fresh (plain_bytes row.host.now) (plain_service row.service.now) (IsPlainResult fresh) body (λ known. known)

pub all_rows : (fresh : List ObjectLine) (now : Moment) (rows : List ShownObject)
    → AllByRecursion (SendsOnly (IsPlainResult fresh)) (object_fates fresh now rows)
all_rows fresh now [] = tt
all_rows fresh now (row ∷ rows) =
    more (object_fate fresh now row) refl (row_result fresh now row (code_of row.state) row.last) (all_rows fresh now rows)
  where
    more : (fate : Option Fate) → object_fate fresh now row ≡ fate → MaySendOnly (IsPlainResult fresh) fate
        → AllByRecursion (SendsOnly (IsPlainResult fresh)) (object_fates fresh now rows)
        → AllByRecursion (SendsOnly (IsPlainResult fresh)) (object_fates fresh now (row ∷ rows))
    more None is good rest =
        let same : object_fates fresh now (row ∷ rows) ≡ object_fates fresh now rows = rw is in
        subst (AllByRecursion (SendsOnly (IsPlainResult fresh))) (sym same) rest
    more (Some fate) is good rest =
        let same : object_fates fresh now (row ∷ rows) ≡ fate ∷ object_fates fresh now rows = rw is in
        subst (AllByRecursion (SendsOnly (IsPlainResult fresh))) (sym same) (good, rest)

-- ---- comments

plain_comment : (fresh : List ObjectLine) (mark : Option ShownAcknowledgement) (row : ShownComment)
    → IsKnown fresh (plain_bytes row.host.now) (plain_service row.service.now) → IsPlain fresh (comment_body mark row)
unfolding IsPlain
plain_comment fresh None row known = known
plain_comment fresh (Some Missing) row known = known
plain_comment fresh (Some Normal) row known = tt
plain_comment fresh (Some Sticky) row known = tt

plain_own : (fresh : List ObjectLine) (now : Moment) (objects : List ShownObject) (row : ShownComment) (later : List ShownComment)
    → AllByRecursion (SendsOnly (IsPlain fresh)) (own_fates fresh now objects row later)
plain_own fresh now objects row later = either (is_of_downtime row.source)
  where
    either : (of_entry : Bool) → AllByRecursion (SendsOnly (IsPlain fresh)) (if of_entry then [] else comment_row_fate fresh now objects row later ∷ [])
    either true = tt
    either false =
        let object = object_of_fields fresh row.host.now row.service.now in
        let mark = mark_by (threshold_of fresh object) now objects row later in (
          sent_good fresh (plain_bytes row.host.now) (plain_service row.service.now) (IsPlain fresh) (comment_body mark row)
              (plain_comment fresh mark row),
          tt,
        )

-- ---- entries

plain_row : (fresh : List ObjectLine) (row : ShownDowntime) (terms : Result Terms Cause)
    → ((one : Terms) → terms ≡ Ok one → IsKnown fresh (plain_bytes row.host.now) (plain_service row.service.now))
    → SendsOnly (IsPlain fresh) (row_fate (record { row = row; terms = terms }))
unfolding IsPlain
plain_row fresh row (Err cause) known = tt
plain_row fresh row (Ok one) known = known one refl

all_renewals : (fresh : List ObjectLine) (now until : Moment) (sent : List ℕ) (rows : List ShownDowntime)
    → AllByRecursion (λ (one : RowRenewal). SendsOnly (IsPlain fresh) (row_fate one)) (row_renewals_from fresh now until sent rows)
all_renewals fresh now until sent [] = tt
all_renewals fresh now until sent (row ∷ rows) =
    let terms = row_terms fresh now until sent row in
    let host = plain_bytes row.host.now in
    let service = plain_service row.service.now in
    let known : (one : Terms) → terms ≡ Ok one → IsKnown fresh host service =
    λ one is. known_place fresh host service
    (renewed now until sent (is_some (object_of_fields fresh row.host.now row.service.now)) (plan_of_row row) row.begin one is).is_known in
    (plain_row fresh row terms known, all_renewals fresh now until (with_id sent row.id terms) rows)

all_entries : (good : Body → Type 0) (left : List RowRenewal) → AllByRecursion (λ (one : RowRenewal). SendsOnly good (row_fate one)) left
    → AllByRecursion (SendsOnly good) (map row_fate left)
all_entries good [] all = tt
all_entries good (one ∷ left) all = (all.0, all_entries good left all.1)

pub all_others : (good : Body → Type 0) (fresh : List ObjectLine) (now : Moment) (objects : List ShownObject) (comments : List ShownComment) (left : List RowRenewal)
    → ((row : ShownComment) (later : List ShownComment) → AllByRecursion (SendsOnly good) (own_fates fresh now objects row later))
    → AllByRecursion (λ (one : RowRenewal). SendsOnly good (row_fate one)) left
    → AllByRecursion (SendsOnly good) (others_among fresh now objects comments left)
all_others good fresh now objects [] left own all = all_entries good left all
all_others good fresh now objects (row ∷ rows) left own all =
    let taken = taken_by row left in
    let here = map row_fate (take taken left) in
    let mine = own_fates fresh now objects row rows in
    let rest = others_among fresh now objects rows (drop taken left) in
    each_append (SendsOnly good) (here ++ mine) rest
    (each_append (SendsOnly good) here mine (all_entries good (take taken left) (all_take (λ (one : RowRenewal). SendsOnly good (row_fate one)) taken left all)) (own row rows))
    (all_others good fresh now objects rows (drop taken left) own (all_drop (λ (one : RowRenewal). SendsOnly good (row_fate one)) taken left all))

-- what is sent of a page, but for results and acknowledgements
pub page_plain : (fresh : List ObjectLine) (now until : Moment) (page : StatusPage)
    → AllByRecursion (SendsOnly (IsPlain fresh)) (page_others fresh now until page)
page_plain fresh now until page =
    all_others (IsPlain fresh) fresh now page.objects.items page.comments.items (row_renewals_of fresh now until page.downtimes.items)
    (plain_own fresh now page.objects.items) (all_renewals fresh now until [] page.downtimes.items)

pub page_accepted : (fresh : List ObjectLine) (now until : Moment) (page : StatusPage) (plan : Plan) → IsFaultless fresh
    → plan.results.items ≡ object_fates fresh now page.objects.items → plan.others.items ≡ page_others fresh now until page
    → AreSchedulable until 0 (filter_map sent_terms plan.others.items) → AcceptsOthers fresh until (commands_of plan)
page_accepted fresh now until page plan good results others schedulable =
    plan_accepted fresh until plan good
    (subst (AllByRecursion (SendsOnly (IsPlainResult fresh))) (sym results) (all_rows fresh now page.objects.items))
    (subst (AllByRecursion (SendsOnly (IsPlain fresh))) (sym others) (page_plain fresh now until page))
    schedulable
