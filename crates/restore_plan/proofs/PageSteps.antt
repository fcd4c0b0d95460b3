-- What is sent of a kept page can be scheduled.
use Rattle.std.proofs.Common.{◌≡◌, ℕ, ◌+◌, Bool, true, false, List, [], ◌∷◌, ◌++◌, length, take, drop, refl, sym, ap, ◌∙◌, subst}
use Rattle.std.specs.Prelude.{if◌then◌else◌, filter_map, map, Option, Some, None, is_some, Result, Ok, Err}
use Rattle.std.proofs.lemmas.List.{take-append-drop, map-append, append-nil, length_push}
use Rattle.std.proofs.lemmas.List.Elements.{filter_map-append}
use Rattle.gate_model.specs.declared.record.Moment.{Moment}
use Rattle.gate_model.specs.declared.object.ObjectId.{ObjectId}
use Rattle.gate_model.specs.declared.object.ObjectLine.{ObjectLine}
use Rattle.status_reading.specs.declared.page.StatusPage.{StatusPage}
use Rattle.status_reading.specs.declared.rows.ShownObject.{ShownObject}
use Rattle.status_reading.specs.declared.rows.ShownComment.{ShownComment}
use Rattle.status_reading.specs.declared.rows.ShownDowntime.{ShownDowntime}
use Rattle.status_reading.specs.declared.rows.ShownAcknowledgement.{ShownAcknowledgement}
use Rattle.status_reading.specs.declared.rows.ShownAcknowledgement.TheVariants.{Missing, Normal, Sticky}
use Rattle.restore_plan.specs.declared.entries.Terms.{Terms}
use Rattle.restore_plan.specs.declared.page_plan.RowRenewal.{RowRenewal}
use Rattle.restore_plan.specs.declared.fates.Fate.{Fate}
use Rattle.restore_plan.specs.declared.fates.Cause.{Cause}
use Rattle.restore_plan.specs.Fates.{sent_to, threshold_of}
use Rattle.restore_plan.specs.Entries.{with_id}
use Rattle.restore_plan.specs.PagePlan.{object_of_fields, mark_by, comment_body, comment_row_fate, is_of_downtime, plan_of_row, row_terms, row_renewals_from, row_renewals_of, row_fate, own_fates, taken_by, others_among, page_others}
use Rattle.restore_plan.specs.Scheduling.{sent_terms, AreSchedulable}
use Rattle.restore_plan.proofs.TermSteps.{renewed}

-- ---- comments schedule nothing

silent_comment : (object : Option ObjectId) (mark : Option ShownAcknowledgement) (row : ShownComment)
    → filter_map sent_terms (sent_to object (comment_body mark row) ∷ []) ≡ []
silent_comment None mark row = refl
silent_comment (Some object) None row = refl
silent_comment (Some object) (Some Missing) row = refl
silent_comment (Some object) (Some Normal) row = refl
silent_comment (Some object) (Some Sticky) row = refl

silent_if : (test : Bool) (fates : List Fate) → filter_map sent_terms fates ≡ []
    → filter_map sent_terms (if test then [] else fates) ≡ []
silent_if true fates is = refl
silent_if false fates is = is

silent_own : (fresh : List ObjectLine) (now : Moment) (objects : List ShownObject) (row : ShownComment) (later : List ShownComment)
    → filter_map sent_terms (own_fates fresh now objects row later) ≡ []
silent_own fresh now objects row later =
    let object = object_of_fields fresh row.host.now row.service.now in
    silent_if (is_of_downtime row.source) (comment_row_fate fresh now objects row later ∷ [])
    (silent_comment object (mark_by (threshold_of fresh object) now objects row later) row)

-- ---- the order of comments

-- the terms on which entries are scheduled again
abbrev all_sent : List RowRenewal → List Terms
all_sent left = filter_map sent_terms (map row_fate left)

sent-append : (one other : List RowRenewal) → all_sent (one ++ other) ≡ all_sent one ++ all_sent other
sent-append one other =
    ap (filter_map sent_terms) (map-append row_fate one other)
    ∙ filter_map-append sent_terms (map row_fate one) (map row_fate other)

sent_among : (fresh : List ObjectLine) (now : Moment) (objects : List ShownObject) (comments : List ShownComment) (left : List RowRenewal)
    → filter_map sent_terms (others_among fresh now objects comments left) ≡ all_sent left
sent_among fresh now objects [] left = refl
sent_among fresh now objects (row ∷ rows) left =
    let taken = taken_by row left in
    let rest = others_among fresh now objects rows (drop taken left) in
    let own = own_fates fresh now objects row rows in
    let here = map row_fate (take taken left) in
    filter_map-append sent_terms (here ++ own) rest
    ∙ ap (λ front. front ++ filter_map sent_terms rest) (
    filter_map-append sent_terms here own
    ∙ ap (λ none. all_sent (take taken left) ++ none) (silent_own fresh now objects row rows)
    ∙ append-nil (all_sent (take taken left))
    )
    ∙ ap (λ more. all_sent (take taken left) ++ more) (sent_among fresh now objects rows (drop taken left))
    ∙ sym (sent-append (take taken left) (drop taken left))
    ∙ ap all_sent (take-append-drop taken left)

-- ---- entries

next : (fresh : List ObjectLine) (now until : Moment) (sent : List ℕ) (row : ShownDowntime) (rows : List ShownDowntime) (terms : Result Terms Cause)
    → row_terms fresh now until sent row ≡ terms
    → ((ids : List ℕ) → AreSchedulable until (length ids) (all_sent (row_renewals_from fresh now until ids rows)))
    → AreSchedulable until (length sent) (all_sent (
    record { row = row; terms = terms } ∷ row_renewals_from fresh now until (with_id sent row.id terms) rows
    ))
next fresh now until sent row rows (Err cause) is all = all sent
next fresh now until sent row rows (Ok terms) is all =
    let ids = sent ++ row.id ∷ [] in
    let good =
    renewed now until sent (is_some (object_of_fields fresh row.host.now row.service.now)) (plan_of_row row) row.begin terms is in
    let more : length ids ≡ length sent + 1 = length_push sent row.id in
    (good.over, good.trigger, subst (λ count. AreSchedulable until count (all_sent (row_renewals_from fresh now until ids rows))) more (all ids))

schedulable : (fresh : List ObjectLine) (now until : Moment) (rows : List ShownDowntime) (sent : List ℕ)
    → AreSchedulable until (length sent) (all_sent (row_renewals_from fresh now until sent rows))
schedulable fresh now until [] sent = tt
schedulable fresh now until (row ∷ rows) sent =
    next fresh now until sent row rows (row_terms fresh now until sent row) refl (schedulable fresh now until rows)

pub of_page : (fresh : List ObjectLine) (now until : Moment) (page : StatusPage) (fates : List Fate)
    → fates ≡ page_others fresh now until page → AreSchedulable until 0 (filter_map sent_terms fates)
of_page fresh now until page fates is =
    subst (AreSchedulable until 0)
    (sym (
    ap (filter_map sent_terms) is
    ∙ sent_among fresh now page.objects.items page.comments.items (row_renewals_of fresh now until page.downtimes.items)
    ))
    (schedulable fresh now until page.downtimes.items [])
