-- What is sent of a kept log can be applied at one moment.
use Rattle.std.proofs.Common.{◌≡◌, ℕ, zero, suc, ℤ, ◌+◌, ◌==◌, Bool, true, false, List, [], ◌∷◌, ◌++◌, take, drop, filter_map, refl, sym, ap, subst}
use Rattle.std.specs.Prelude.{◌&&◌, not, slice_get, Option, Some, None, is_some, option_map, Result, Ok, Err, if◌then◌else◌}
use Rattle.std.specs.List.{AllByRecursion}
use Rattle.std.specs.Option.{option_to_list}
use Rattle.gate_model.specs.declared.record.Moment.{Moment}
use Rattle.gate_model.specs.declared.record.Record.{Record}
use Rattle.gate_model.specs.declared.object.ObjectLine.{ObjectLine}
use Rattle.gate_model.specs.declared.downtime.Plan.{Plan as Scheduled}
use Rattle.gate_model.specs.declared.submission.Body.{Body}
use Rattle.gate_model.specs.declared.submission.Body.TheVariants as bodies
use Rattle.gate_model.specs.declared.state.State.{State}
use Rattle.gate_model.specs.declared.status.CheckResult.{CheckResult}
use Rattle.gate_model.specs.Table.{place_of, object_of, object_kind, object_at}
use Rattle.gate_table.specs.Faults.{IsFaultless}
use Rattle.gate_model.specs.Meaning.{LiveEntry, downtimes_at}
use Rattle.gate_applier.specs.Applier.{ApplierView}
use Rattle.status_reading.proofs.EachSteps.{each_append}
use Rattle.restore_plan.specs.declared.entries.Terms.{Terms}
use Rattle.restore_plan.specs.declared.entries.Renewal.{Renewal}
use Rattle.restore_plan.specs.declared.fates.Fate.{Fate}
use Rattle.restore_plan.specs.declared.fates.Fate.TheVariants.{Sent, Left}
use Rattle.restore_plan.specs.declared.fates.Cause.{Cause}
use Rattle.restore_plan.specs.declared.fates.Cause.TheVariants.{TooOld}
use Rattle.restore_plan.specs.declared.plan.Plan.{Plan}
use Rattle.restore_plan.specs.Fates.{sent_to, has_comment, comments_in, comment_fate, is_in_force, is_disabled, fate_of_result, last_of, is_outdated, threshold_of}
use Rattle.restore_plan.specs.Entries.{object_of_line, is_known, has_schedule, can_be_sent, with_id, live_terms, renewals_from, renewals_of, fate_by, fate_in, entry_fate}
use Rattle.restore_plan.specs.Plan.{result_in, other_in, results_from, taken_at, others_from, others_of, sent_of, commands_of}
use Rattle.restore_plan.specs.Scheduling.{terms_in, sent_terms, AreSchedulable}
use Rattle.restore_plan.specs.Acceptance.{AcceptsOthers}
use Rattle.restore_plan.proofs.TermSteps.{renewed}
use Rattle.restore_plan.proofs.AcceptSteps.{IsKnown, HasProblem, IsApt, state_by, all_pending, accepts_others}

-- ---- results

-- the body is a result of a known object
unfoldable pub IsPlainResult : List ObjectLine → Body → Type 0
IsPlainResult fresh (bodies.Result host service code output) = IsKnown fresh host service
IsPlainResult fresh _ = ⊥

-- a comment, a setting or downtime of a known object, or an acknowledgement
unfoldable pub IsPlain : List ObjectLine → Body → Type 0
IsPlain fresh (bodies.AddComment host service persistent author text) = IsKnown fresh host service
IsPlain fresh (bodies.Acknowledge host service sticky notify persistent author text) = Unit {0}
IsPlain fresh (bodies.Schedule host service starts ends fixed trigger lasts author text) = IsKnown fresh host service
IsPlain fresh (bodies.Passive host service on) = IsKnown fresh host service
IsPlain fresh _ = ⊥

-- the state in which accepted results leave the object at this place
abbrev pub shown_at : List ObjectLine → ℕ → State → List Body → State
shown_at fresh place state [] = state
shown_at fresh place state (body ∷ rest) = shown_at fresh place (state_by fresh place body state) rest

-- an acknowledgement is of an object with a problem, where these are the states
abbrev pub IsAcked : List ObjectLine → (ℕ → State) → Body → Type 0
IsAcked fresh shown (bodies.Acknowledge host service sticky notify persistent author text) = HasProblem fresh shown host service
IsAcked fresh shown _ = Unit {0}

-- what is sent is so
abbrev pub SendsOnly : (Body → Type 0) → Fate → Type 0
SendsOnly good (Sent body) = good body
SendsOnly good (Left cause body) = Unit {0}

abbrev pub MaySendOnly : (Body → Type 0) → Option Fate → Type 0
MaySendOnly good None = Unit {0}
MaySendOnly good (Some fate) = SendsOnly good fate

pub all_take : {A : Type 0} (P : A → Type 0) (count : ℕ) (items : List A) → AllByRecursion P items → AllByRecursion P (take count items)
all_take P zero items all = tt
all_take P (suc count) [] all = tt
all_take P (suc count) (item ∷ items) all = (all.0, all_take P count items all.1)

pub all_drop : {A : Type 0} (P : A → Type 0) (count : ℕ) (items : List A) → AllByRecursion P items → AllByRecursion P (drop count items)
all_drop P zero items all = all
all_drop P (suc count) [] all = tt
all_drop P (suc count) (item ∷ items) all = all_drop P count items all.1

all_of_option : (good : Body → Type 0) (fate : Option Fate) → MaySendOnly good fate → AllByRecursion (SendsOnly good) (option_to_list fate)
all_of_option good None is = tt
all_of_option good (Some fate) is = (is, tt)

all_bodies : (good : Body → Type 0) (fates : List Fate) → AllByRecursion (SendsOnly good) fates → AllByRecursion good (filter_map sent_of fates)
all_bodies good [] all = tt
all_bodies good (Sent body ∷ fates) all = (all.0, all_bodies good fates all.1)
all_bodies good (Left cause body ∷ fates) all = all_bodies good fates all.1

-- a command that is sent to a known object
pub sent_good : (fresh : List ObjectLine) (host : List ℕ) (service : Option (List ℕ)) (good : Body → Type 0) (body : Body)
    → (IsKnown fresh host service → good body) → SendsOnly good (sent_to (object_of fresh host service) body)
sent_good fresh host service good body known = found (place_of fresh host service) refl
  where
    found : (place : Option ℕ) → place_of fresh host service ≡ place → SendsOnly good (sent_to (option_map (object_at (object_kind service)) place) body)
    found None is = tt
    found (Some place) is = known (ap is_some is)

pub choice : (good : Body → Type 0) (test : Bool) (one other : Option Fate) → MaySendOnly good one → MaySendOnly good other
    → MaySendOnly good (if test then one else other)
choice good true one other first second = first
choice good false one other first second = second

result_good : (fresh : List ObjectLine) (kept : ApplierView) (index : ℕ) (last : Option CheckResult) (host : List ℕ) (service : Option (List ℕ)) (code : ℤ) (output : List ℕ)
    → MaySendOnly (IsPlainResult fresh) (fate_of_result fresh kept.moment index last host service code output)
unfolding IsPlainResult
result_good fresh kept index None host service code output = tt
result_good fresh kept index (Some last) host service code output =
    let good = IsPlainResult fresh in
    let body : Body = bodies.Result host service code output in
    let sent : Option Fate = Some (sent_to (object_of fresh host service) body) in
    let old : Option Fate = Some (Left TooOld body) in
    let late = is_outdated (threshold_of fresh (object_of fresh host service)) last.moment kept.moment in
    choice good (not (last.log_index == index)) None (if late then old else sent) tt
    (choice good late old sent tt (sent_good fresh host service good body (λ known. known)))

result_in_good : (fresh : List ObjectLine) (kept : ApplierView) (index : ℕ) (body : Body) → MaySendOnly (IsPlainResult fresh) (result_in fresh kept index body)
result_in_good fresh kept index (bodies.Result host service code output) =
    result_good fresh kept index (last_of kept host service) host service code output
result_in_good fresh kept index body = tt

pub all_results : (fresh : List ObjectLine) (kept : ApplierView) (first : ℕ) (records : List Record)
    → AllByRecursion (SendsOnly (IsPlainResult fresh)) (results_from fresh kept first records)
all_results fresh kept first [] = tt
all_results fresh kept first (applied ∷ records) =
    each_append (SendsOnly (IsPlainResult fresh)) (option_to_list (result_in fresh kept first applied.item.body)) (results_from fresh kept (first + 1) records)
    (all_of_option (IsPlainResult fresh) (result_in fresh kept first applied.item.body) (result_in_good fresh kept first applied.item.body))
    (all_results fresh kept (first + 1) records)

-- ---- others

plain_comment : (fresh : List ObjectLine) (kept : ApplierView) (index : ℕ) (host : List ℕ) (service : Option (List ℕ)) (persistent : ℕ) (author text : List ℕ)
    → MaySendOnly (IsPlain fresh) (comment_fate fresh kept index host service persistent author text)
unfolding IsPlain
plain_comment fresh kept index host service persistent author text =
    let body : Body = bodies.AddComment host service persistent author text in
    choice (IsPlain fresh) (not (has_comment index (comments_in kept))) None (Some (sent_to (object_of fresh host service) body)) tt
    (sent_good fresh host service (IsPlain fresh) body (λ known. known))

plain_other : (fresh : List ObjectLine) (kept : ApplierView) (index : ℕ) (body : Body) → MaySendOnly (IsPlain fresh) (other_in fresh kept index body)
unfolding IsPlain
plain_other fresh kept index (bodies.AddComment host service persistent author text) =
    plain_comment fresh kept index host service persistent author text
plain_other fresh kept index (bodies.Acknowledge host service sticky notify persistent author text) =
    let body : Body = bodies.Acknowledge host service sticky notify persistent author text in
    choice (IsPlain fresh) (not (is_in_force fresh kept index host service)) (comment_fate fresh kept index host service persistent author text)
    (Some (sent_to (object_of fresh host service) body))
    (plain_comment fresh kept index host service persistent author text)
    (sent_good fresh host service (IsPlain fresh) body (λ known. tt))
plain_other fresh kept index (bodies.Passive host service false) =
    let body : Body = bodies.Passive host service false in
    choice (IsPlain fresh) (not (is_disabled kept host service)) None (Some (sent_to (object_of fresh host service) body)) tt
    (sent_good fresh host service (IsPlain fresh) body (λ known. known))
plain_other fresh kept index body = tt

-- ---- entries

pub known_place : (fresh : List ObjectLine) (host : List ℕ) (service : Option (List ℕ)) → is_some (object_of fresh host service) ≡ true
    → IsKnown fresh host service
known_place fresh host service is = found (place_of fresh host service) refl
  where
    found : (place : Option ℕ) → place_of fresh host service ≡ place → is_some (place_of fresh host service) ≡ true
    found None at = absurd (let none : is_some (option_map (object_at (object_kind service)) (place_of fresh host service)) ≡ false = ap (λ place. is_some (option_map (object_at (object_kind service)) place)) at in cc)
    found (Some place) at = ap is_some at

plain_by : (fresh : List ObjectLine) (line : ObjectLine) (plan : Scheduled) (terms : Result Terms Cause) (body : Body)
    → ((one : Terms) → terms ≡ Ok one → IsKnown fresh line.host line.service) → MaySendOnly (IsPlain fresh) (fate_by line plan terms body)
unfolding IsPlain
plain_by fresh line plan (Ok one) (bodies.Schedule host service starts ends fixed trigger lasts author text) known = known one refl
plain_by fresh line plan (Ok one) (bodies.ScheduleServices host starts ends fixed trigger lasts author text) known = known one refl
plain_by fresh line plan (Err cause) bodies.Shutdown known = tt
plain_by fresh line plan terms body known = tt

first_of_both : (one other : Bool) → (one && other) ≡ true → one ≡ true
first_of_both true other is = refl
first_of_both false other is = absurd cc

plain_in : (fresh : List ObjectLine) (line : Option ObjectLine) (plan : Scheduled) (terms : Result Terms Cause) (applied : Option Record)
    → ((one : Terms) → terms ≡ Ok one → is_some (object_of_line fresh line) ≡ true) → MaySendOnly (IsPlain fresh) (fate_in line plan terms applied)
plain_in fresh None plan terms applied known = tt
plain_in fresh (Some line) plan terms None known = tt
plain_in fresh (Some line) plan terms (Some applied) known =
    plain_by fresh line plan terms applied.item.body (λ one is. known_place fresh line.host line.service (known one is))

all_renewals : (fresh : List ObjectLine) (kept : ApplierView) (until : Moment) (sent : List ℕ) (entries : List LiveEntry)
    → AllByRecursion (λ (one : Renewal). MaySendOnly (IsPlain fresh) (entry_fate kept one)) (renewals_from fresh kept until sent entries)
all_renewals fresh kept until sent [] = tt
all_renewals fresh kept until sent (one ∷ rest) =
    let terms = live_terms fresh kept until sent one in
    let known : (good : Terms) → terms ≡ Ok good → is_some (object_of_line fresh (slice_get kept.table one.scheduled.object.place)) ≡ true =
    λ good is. first_of_both (is_known fresh kept.table one.scheduled.object.place) (has_schedule (slice_get kept.records one.scheduled.plan.log_index))
    (renewed kept.moment until sent (can_be_sent fresh kept one) one.scheduled.plan one.begin good is).is_known in (
      plain_in fresh (slice_get kept.table one.scheduled.object.place) one.scheduled.plan terms (slice_get kept.records one.scheduled.plan.log_index) known,
      all_renewals fresh kept until (with_id sent one.scheduled.id terms) rest,
    )

all_entries : (good : Body → Type 0) (kept : ApplierView) (left : List Renewal)
    → AllByRecursion (λ (one : Renewal). MaySendOnly good (entry_fate kept one)) left
    → AllByRecursion (SendsOnly good) (filter_map (entry_fate kept) left)
all_entries good kept [] all = tt
all_entries good kept (one ∷ left) all = more (entry_fate kept one) refl all.0 (all_entries good kept left all.1)
  where
    more : (fate : Option Fate) → entry_fate kept one ≡ fate → MaySendOnly good fate
        → AllByRecursion (SendsOnly good) (filter_map (entry_fate kept) left)
        → AllByRecursion (SendsOnly good) (filter_map (entry_fate kept) (one ∷ left))
    more None is sent rest =
        let same : filter_map (entry_fate kept) (one ∷ left) ≡ filter_map (entry_fate kept) left = rw is in
        subst (AllByRecursion (SendsOnly good)) (sym same) rest
    more (Some fate) is sent rest =
        let same : filter_map (entry_fate kept) (one ∷ left) ≡ fate ∷ filter_map (entry_fate kept) left = rw is in
        subst (AllByRecursion (SendsOnly good)) (sym same) (sent, rest)

pub all_others : (good : Body → Type 0) (fresh : List ObjectLine) (kept : ApplierView) (first : ℕ) (records : List Record) (left : List Renewal)
    → ((index : ℕ) (body : Body) → MaySendOnly good (other_in fresh kept index body))
    → AllByRecursion (λ (one : Renewal). MaySendOnly good (entry_fate kept one)) left
    → AllByRecursion (SendsOnly good) (others_from fresh kept first records left)
all_others good fresh kept first [] left each all = all_entries good kept left all
all_others good fresh kept first (applied ∷ records) left each all =
    let taken = taken_at first left in
    let own = other_in fresh kept first applied.item.body in
    let here = filter_map (entry_fate kept) (take taken left) in
    let rest = others_from fresh kept (first + 1) records (drop taken left) in
    each_append (SendsOnly good) (option_to_list own ++ here) rest
    (each_append (SendsOnly good) (option_to_list own) here (all_of_option good own (each first applied.item.body))
    (all_entries good kept (take taken left) (all_take (λ (one : Renewal). MaySendOnly good (entry_fate kept one)) taken left all)))
    (all_others good fresh kept (first + 1) records (drop taken left) each (all_drop (λ (one : Renewal). MaySendOnly good (entry_fate kept one)) taken left all))

-- ---- all commands

terms_of_sent : (fates : List Fate) → filter_map terms_in (filter_map sent_of fates) ≡ filter_map sent_terms fates
terms_of_sent [] = refl
terms_of_sent (Left cause body ∷ fates) = terms_of_sent fates
terms_of_sent (Sent body ∷ fates) = more (terms_in body) refl (terms_of_sent fates)
  where
    more : (terms : Option Terms) → terms_in body ≡ terms
        → filter_map terms_in (filter_map sent_of fates) ≡ filter_map sent_terms fates
        → filter_map terms_in (body ∷ filter_map sent_of fates) ≡ filter_map sent_terms (Sent body ∷ fates)
    more None is same = rw is same
    more (Some terms) is same = rw is (ap (λ rest. terms ∷ rest) same)

apt_others : (fresh : List ObjectLine) (now : Moment) (sure : Bool) (shown : ℕ → State) (others : Bool) (count : ℕ) (commands : List Body)
    → AllByRecursion (IsPlain fresh) commands → (sure ≡ true → AllByRecursion (IsAcked fresh shown) commands)
    → AreSchedulable now count (filter_map terms_in commands) → IsApt fresh now sure shown others count commands
unfolding IsPlain IsApt
apt_others fresh now sure shown others count [] all acked good = tt
apt_others fresh now sure shown others count (bodies.AddComment host service persistent author text ∷ rest) all acked good =
    (all.0, apt_others fresh now sure shown true count rest all.1 (λ is. (acked is).1) good)
apt_others fresh now sure shown others count (bodies.Acknowledge host service sticky notify persistent author text ∷ rest) all acked good =
    ((λ is. (acked is).0), apt_others fresh now sure shown true count rest all.1 (λ is. (acked is).1) good)
apt_others fresh now sure shown others count (bodies.Schedule host service starts ends fixed trigger lasts author text ∷ rest) all acked good =
    (all.0, good.0, good.1, apt_others fresh now sure shown true (count + 1) rest all.1 (λ is. (acked is).1) good.2)
apt_others fresh now sure shown others count (bodies.Passive host service on ∷ rest) all acked good =
    (all.0, apt_others fresh now sure shown true count rest all.1 (λ is. (acked is).1) good)
apt_others fresh now sure shown others count (body ∷ rest) all acked good = absurd all.0

apt_results : (fresh : List ObjectLine) (now : Moment) (sure : Bool) (shown : ℕ → State) (results others : List Body)
    → AllByRecursion (IsPlainResult fresh) results
    → IsApt fresh now sure (λ place. shown_at fresh place (shown place) results) false 0 others
    → IsApt fresh now sure shown false 0 (results ++ others)
unfolding IsPlainResult IsApt
apt_results fresh now sure shown [] others all apt = apt
apt_results fresh now sure shown (bodies.Result host service code output ∷ rest) others all apt = (
  refl,
  all.0,
  apt_results fresh now sure (λ place. state_by fresh place (bodies.Result host service code output) (shown place)) rest others all.1 apt,
)
apt_results fresh now sure shown (body ∷ rest) others all apt = absurd all.0

-- the states in which the results of a plan leave the objects
abbrev pub shown_by : List ObjectLine → Plan → ℕ → State
shown_by fresh plan place = shown_at fresh place (all_pending place) (filter_map sent_of plan.results.items)

-- a plan of such fates
pub plan_apt : (fresh : List ObjectLine) (until : Moment) (sure : Bool) (plan : Plan)
    → AllByRecursion (SendsOnly (IsPlainResult fresh)) plan.results.items
    → AllByRecursion (SendsOnly (IsPlain fresh)) plan.others.items
    → (sure ≡ true → AllByRecursion (SendsOnly (IsAcked fresh (shown_by fresh plan))) plan.others.items)
    → AreSchedulable until 0 (filter_map sent_terms plan.others.items)
    → IsApt fresh until sure all_pending false 0 (commands_of plan)
plan_apt fresh until sure plan results others acked schedulable =
    let first = filter_map sent_of plan.results.items in
    let second = filter_map sent_of plan.others.items in
    let shown = shown_by fresh plan in
    apt_results fresh until sure all_pending first second (all_bodies (IsPlainResult fresh) plan.results.items results) (
    apt_others fresh until sure shown false 0 second (all_bodies (IsPlain fresh) plan.others.items others)
    (λ is. all_bodies (IsAcked fresh shown) plan.others.items (acked is))
    (subst (AreSchedulable until 0) (sym (terms_of_sent plan.others.items)) schedulable)
    )

pub plan_accepted : (fresh : List ObjectLine) (until : Moment) (plan : Plan) → IsFaultless fresh
    → AllByRecursion (SendsOnly (IsPlainResult fresh)) plan.results.items
    → AllByRecursion (SendsOnly (IsPlain fresh)) plan.others.items
    → AreSchedulable until 0 (filter_map sent_terms plan.others.items) → AcceptsOthers fresh until (commands_of plan)
plan_accepted fresh until plan good results others schedulable =
    accepts_others fresh until (commands_of plan) good
    (plan_apt fresh until false plan results others (λ same. absurd cc) schedulable)

-- what is sent of a log, but for acknowledgements
pub log_plain : (fresh : List ObjectLine) (kept : ApplierView) (until : Moment)
    → AllByRecursion (SendsOnly (IsPlain fresh)) (others_of fresh kept until)
log_plain fresh kept until =
    all_others (IsPlain fresh) fresh kept 0 kept.records (renewals_of fresh kept until) (plain_other fresh kept)
    (all_renewals fresh kept until [] (downtimes_at kept.table kept.records kept.moment))
