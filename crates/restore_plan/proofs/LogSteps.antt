-- What is sent of a kept log can be scheduled.
use Rattle.std.proofs.Common.{◌≡◌, ℕ, ◌+◌, Bool, true, false, List, [], ◌∷◌, ◌++◌, length, take, drop, refl, sym, ap, ◌∙◌, subst}
use Rattle.std.specs.Prelude.{◌&&◌, if◌then◌else◌, not, filter_map, slice_get, Option, Some, None, is_some, Result, Ok, Err}
use Rattle.std.specs.Option.{option_to_list}
use Rattle.std.proofs.lemmas.List.{take-append-drop, length_push}
use Rattle.std.proofs.lemmas.List.Elements.{filter_map-append}
use Rattle.gate_model.specs.declared.record.Moment.{Moment}
use Rattle.gate_model.specs.declared.record.Record.{Record}
use Rattle.gate_model.specs.declared.object.ObjectId.{ObjectId}
use Rattle.gate_model.specs.declared.object.ObjectLine.{ObjectLine}
use Rattle.gate_model.specs.declared.downtime.Plan.{Plan}
use Rattle.gate_model.specs.declared.submission.Body.{Body}
use Rattle.gate_model.specs.declared.submission.Body.TheVariants as bodies
use Rattle.gate_model.specs.Table.{object_of}
use Rattle.gate_model.specs.Meaning.{LiveEntry, downtimes_at}
use Rattle.gate_applier.specs.Applier.{ApplierView}
use Rattle.restore_plan.specs.declared.entries.Terms.{Terms}
use Rattle.restore_plan.specs.declared.entries.Renewal.{Renewal}
use Rattle.restore_plan.specs.declared.fates.Fate.{Fate}
use Rattle.restore_plan.specs.declared.fates.Cause.{Cause}
use Rattle.restore_plan.specs.Fates.{sent_to, has_comment, comments_in, comment_fate, is_in_force, is_disabled}
use Rattle.restore_plan.specs.Entries.{object_of_line, has_schedule, is_schedule, can_be_sent, with_id, live_terms, renewals_from, renewals_of, fate_by, fate_in, entry_fate}
use Rattle.restore_plan.specs.Plan.{other_in, taken_at, others_from, others_of}
use Rattle.restore_plan.specs.Scheduling.{sent_terms, AreSchedulable}
use Rattle.restore_plan.proofs.TermSteps.{AreGood, renewed}

-- ---- what schedules nothing

-- the terms on which a fate schedules downtime, as a list
abbrev fate_terms : Option Fate → List Terms
fate_terms fate = filter_map sent_terms (option_to_list fate)

silent_comment : (object : Option ObjectId) (host : List ℕ) (service : Option (List ℕ)) (persistent : ℕ) (author text : List ℕ)
    → fate_terms (Some (sent_to object (bodies.AddComment host service persistent author text))) ≡ []
silent_comment None host service persistent author text = refl
silent_comment (Some object) host service persistent author text = refl

silent_acknowledgement : (object : Option ObjectId) (host : List ℕ) (service : Option (List ℕ)) (sticky notify persistent : ℕ) (author text : List ℕ)
    → fate_terms (Some (sent_to object (bodies.Acknowledge host service sticky notify persistent author text))) ≡ []
silent_acknowledgement None host service sticky notify persistent author text = refl
silent_acknowledgement (Some object) host service sticky notify persistent author text = refl

silent_setting : (object : Option ObjectId) (host : List ℕ) (service : Option (List ℕ)) (on : Bool)
    → fate_terms (Some (sent_to object (bodies.Passive host service on))) ≡ []
silent_setting None host service on = refl
silent_setting (Some object) host service on = refl

silent_if : (test : Bool) (one other : Option Fate) → fate_terms one ≡ [] → fate_terms other ≡ []
    → fate_terms (if test then one else other) ≡ []
silent_if true one other is that = is
silent_if false one other is that = that

silent_comment_fate : (fresh : List ObjectLine) (kept : ApplierView) (index : ℕ) (host : List ℕ) (service : Option (List ℕ)) (persistent : ℕ) (author text : List ℕ)
    → fate_terms (comment_fate fresh kept index host service persistent author text) ≡ []
silent_comment_fate fresh kept index host service persistent author text =
    silent_if (not (has_comment index (comments_in kept))) None
    (Some (sent_to (object_of fresh host service) (bodies.AddComment host service persistent author text))) refl
    (silent_comment (object_of fresh host service) host service persistent author text)

silent_other : (fresh : List ObjectLine) (kept : ApplierView) (index : ℕ) (body : Body) → fate_terms (other_in fresh kept index body) ≡ []
silent_other fresh kept index (bodies.AddComment host service persistent author text) =
    silent_comment_fate fresh kept index host service persistent author text
silent_other fresh kept index (bodies.Acknowledge host service sticky notify persistent author text) =
    silent_if (not (is_in_force fresh kept index host service)) (comment_fate fresh kept index host service persistent author text)
    (Some (sent_to (object_of fresh host service) (bodies.Acknowledge host service sticky notify persistent author text)))
    (silent_comment_fate fresh kept index host service persistent author text)
    (silent_acknowledgement (object_of fresh host service) host service sticky notify persistent author text)
silent_other fresh kept index (bodies.Passive host service false) =
    silent_if (not (is_disabled kept host service)) None
    (Some (sent_to (object_of fresh host service) (bodies.Passive host service false))) refl
    (silent_setting (object_of fresh host service) host service false)
silent_other fresh kept index body = refl

-- ---- the order of records

-- the terms on which entries are scheduled again
abbrev all_sent : ApplierView → List Renewal → List Terms
all_sent kept left = filter_map sent_terms (filter_map (entry_fate kept) left)

sent-append : (kept : ApplierView) (one other : List Renewal) → all_sent kept (one ++ other) ≡ all_sent kept one ++ all_sent kept other
sent-append kept one other =
    ap (filter_map sent_terms) (filter_map-append (entry_fate kept) one other)
    ∙ filter_map-append sent_terms (filter_map (entry_fate kept) one) (filter_map (entry_fate kept) other)

sent_from : (fresh : List ObjectLine) (kept : ApplierView) (first : ℕ) (records : List Record) (left : List Renewal)
    → filter_map sent_terms (others_from fresh kept first records left) ≡ all_sent kept left
sent_from fresh kept first [] left = refl
sent_from fresh kept first (applied ∷ records) left =
    let taken = taken_at first left in
    let rest = others_from fresh kept (first + 1) records (drop taken left) in
    let own = option_to_list (other_in fresh kept first applied.item.body) in
    let here = filter_map (entry_fate kept) (take taken left) in
    filter_map-append sent_terms (own ++ here) rest
    ∙ ap (λ front. front ++ filter_map sent_terms rest) (
    filter_map-append sent_terms own here
    ∙ ap (λ none. none ++ all_sent kept (take taken left)) (silent_other fresh kept first applied.item.body)
    )
    ∙ ap (λ more. all_sent kept (take taken left) ++ more) (sent_from fresh kept (first + 1) records (drop taken left))
    ∙ sym (sent-append kept (take taken left) (drop taken left))
    ∙ ap (all_sent kept) (take-append-drop taken left)

-- ---- entries

sent_by : (line : ObjectLine) (plan : Plan) (terms : Terms) (body : Body) → is_schedule body ≡ true
    → fate_terms (fate_by line plan (Ok terms) body) ≡ terms ∷ []
sent_by line plan terms (bodies.Schedule host service starts ends fixed trigger lasts author text) is = refl
sent_by line plan terms (bodies.ScheduleServices host starts ends fixed trigger lasts author text) is = refl
sent_by line plan terms body is = absurd cc

second : (one other : Bool) → (one && other) ≡ true → other ≡ true
second true other is = is
second false other is = absurd cc

sent_in : (fresh : List ObjectLine) (line : Option ObjectLine) (plan : Plan) (terms : Terms) (applied : Option Record)
    → (is_some (object_of_line fresh line) && has_schedule applied) ≡ true
    → fate_terms (fate_in line plan (Ok terms) applied) ≡ terms ∷ []
sent_in fresh None plan terms applied is = absurd cc
sent_in fresh (Some line) plan terms None is =
    absurd (let none = second (is_some (object_of_line fresh (Some line))) false is in cc)
sent_in fresh (Some line) plan terms (Some applied) is =
    sent_by line plan terms applied.item.body
    (second (is_some (object_of_line fresh (Some line))) (is_schedule applied.item.body) is)

silent_by : (line : ObjectLine) (plan : Plan) (cause : Cause) (body : Body) → fate_terms (fate_by line plan (Err cause) body) ≡ []
silent_by line plan cause bodies.Shutdown = refl
silent_by line plan cause body = refl

silent_in : (line : Option ObjectLine) (plan : Plan) (cause : Cause) (applied : Option Record)
    → fate_terms (fate_in line plan (Err cause) applied) ≡ []
silent_in None plan cause applied = refl
silent_in (Some line) plan cause None = refl
silent_in (Some line) plan cause (Some applied) = silent_by line plan cause applied.item.body

-- of one entry
single : (fates : Renewal → Option Fate) (one : Renewal) (fate : Option Fate) → fates one ≡ fate
    → filter_map sent_terms (filter_map fates (one ∷ [])) ≡ fate_terms fate
single fates one None is = rw is
single fates one (Some fate) is = rw is

sent_one : (kept : ApplierView) (one : Renewal) (rest : List Renewal) (here : List Terms) → fate_terms (entry_fate kept one) ≡ here
    → all_sent kept (one ∷ rest) ≡ here ++ all_sent kept rest
sent_one kept one rest here is =
    sent-append kept (one ∷ []) rest
    ∙ ap (λ own. own ++ all_sent kept rest) (single (entry_fate kept) one (entry_fate kept one) refl ∙ is)

-- an entry with its terms, and then those after it
next : (fresh : List ObjectLine) (kept : ApplierView) (until : Moment) (sent : List ℕ) (one : LiveEntry) (rest : List LiveEntry) (terms : Result Terms Cause)
    → live_terms fresh kept until sent one ≡ terms
    → ((ids : List ℕ) → AreSchedulable until (length ids) (all_sent kept (renewals_from fresh kept until ids rest)))
    → AreSchedulable until (length sent) (all_sent kept (
    record { entry = one; terms = terms } ∷ renewals_from fresh kept until (with_id sent one.scheduled.id terms) rest
    ))
next fresh kept until sent one rest (Err cause) is all =
    let left = renewals_from fresh kept until sent rest in
    let entry : Renewal = record { entry = one; terms = Err cause } in
    let none = sent_one kept entry left [] (
    silent_in (slice_get kept.table one.scheduled.object.place) one.scheduled.plan cause
    (slice_get kept.records one.scheduled.plan.log_index)
    ) in
    subst (AreSchedulable until (length sent)) (sym none) (all sent)
next fresh kept until sent one rest (Ok terms) is all =
    let ids = sent ++ one.scheduled.id ∷ [] in
    let left = renewals_from fresh kept until ids rest in
    let entry : Renewal = record { entry = one; terms = Ok terms } in
    let good : AreGood until sent (can_be_sent fresh kept one) terms =
    renewed kept.moment until sent (can_be_sent fresh kept one) one.scheduled.plan one.begin terms is in
    let here = sent_one kept entry left (terms ∷ []) (
    sent_in fresh (slice_get kept.table one.scheduled.object.place) one.scheduled.plan terms
    (slice_get kept.records one.scheduled.plan.log_index) good.is_known
    ) in
    let more : length ids ≡ length sent + 1 = length_push sent one.scheduled.id in
    subst (AreSchedulable until (length sent)) (sym here)
    (good.over, good.trigger, subst (λ count. AreSchedulable until count (all_sent kept left)) more (all ids))

schedulable : (fresh : List ObjectLine) (kept : ApplierView) (until : Moment) (entries : List LiveEntry) (sent : List ℕ)
    → AreSchedulable until (length sent) (all_sent kept (renewals_from fresh kept until sent entries))
schedulable fresh kept until [] sent = tt
schedulable fresh kept until (one ∷ rest) sent =
    next fresh kept until sent one rest (live_terms fresh kept until sent one) refl (schedulable fresh kept until rest)

pub of_log : (fresh : List ObjectLine) (kept : ApplierView) (until : Moment) (fates : List Fate)
    → fates ≡ others_of fresh kept until → AreSchedulable until 0 (filter_map sent_terms fates)
of_log fresh kept until fates is =
    subst (AreSchedulable until 0)
    (sym (ap (filter_map sent_terms) is ∙ sent_from fresh kept 0 kept.records (renewals_of fresh kept until)))
    (schedulable fresh kept until (downtimes_at kept.table kept.records kept.moment) [])
