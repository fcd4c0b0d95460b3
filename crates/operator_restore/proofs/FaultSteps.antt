-- Why nothing is restored, by the fault of a lower call.
use Rattle.std.proofs.Common.{◌≡◌, ℕ, Bool, false, List, ◌++◌, refl, sym, ap, ◌∙◌, subst, inl, inr}
use Rattle.std.specs.Prelude.{◌≢◌, ◌⊎◌, true, None}
use Rattle.std.specs.List.{list_all}
use Rattle.gate_model.specs.declared.object.ObjectLine.{ObjectLine}
use Rattle.gate_model.specs.declared.record.Moment.{Moment}
use Rattle.gate_model.specs.declared.record.Record.{Record}
use Rattle.gate_model.specs.declared.record.Outcome.{Outcome}
use Rattle.gate_model.specs.declared.submission.Body.{Body}
use Rattle.gate_model.specs.Record.{is_accepted}
use Rattle.gate_model.specs.Meaning.{outcomes_of}
use Rattle.gate_foresight.specs.Foresight.{applied_from}
use Rattle.gate_applier.specs.Applier.{ApplierView}
use Rattle.gate_pages.specs.StatusPage.{status_text_at}
use Rattle.status_reading.specs.declared.page.StatusPage.{StatusPage}
use Rattle.status_reading.specs.declared.page.ReadFault.{ReadFault}
use Rattle.status_reading.specs.declared.page.ReadFault.TheVariants as reading
use Rattle.status_reading.specs.Page.{page_text}
use Rattle.status_reading.specs.Readable.{IsReadable}
use Rattle.status_reading.specs.RowFaults.{IsSound}
use Rattle.status_reading.specs.Rows.{PageView}
use Rattle.restore_plan.specs.declared.fates.Fate.{Fate}
use Rattle.restore_plan.specs.declared.rehearsal.RehearsalFault.TheVariants as rehearsal
use Rattle.restore_plan.specs.declared.rehearsal.RehearsalFault.TheVariants.{TooMany, Refused}
use Rattle.restore_plan.specs.Acceptance.{AcknowledgesProblems}
use Rattle.restore_plan.specs.Plan.{results_of, others_of, commands_of}
use Rattle.restore_plan.specs.PagePlan.{object_fates, page_others}
use Rattle.restore_plan.specs.Rehearsal.{first_refusal}
use Rattle.log_reading.specs.declared.logged.Logged.{Logged}
use Rattle.log_reading.specs.Log.{logged_text, accepted_in}
use Rattle.operator_restore.specs.declared.kept.KeptFault.{KeptFault}
use Rattle.operator_restore.specs.declared.kept.KeptFault.TheVariants as kept_fault
use Rattle.operator_restore.specs.declared.prospect.ProspectFault.{ProspectFault}
use Rattle.operator_restore.specs.declared.prospect.Planned.{Planned}
use Rattle.operator_restore.specs.declared.prospect.ProspectFault.TheVariants.{BadPage, Old, NoLog, Kept, Unrehearsed, OutOfMemory}
use Rattle.operator_restore.specs.Escapes.{is_escaped_text}
use Rattle.operator_restore.specs.Faults.{IsNoPage, IsUnforeseen, is_refusal, IsPageUnforeseen, IsPageFault, IsLogFault}
use Rattle.operator_restore.specs.Kept.{opening, IsKept, IsKeptFault, IsGatewayFault}
use Rattle.operator_restore.specs.Prospect.{sent_by, shown_after, IsTextOf, until_of, log_commands, AreObjectsOf, age_of, is_new}
use Rattle.operator_restore.specs.inner.Planned.{IsPlanned}

-- a fault by the name that it has here: memory ran out, or it is this one
pub by_name : {A : Type 0} (P : A → Type 0) (none one other : A) → P none → P one → (other ≡ none) ⊎ (other ≡ one) → P other
by_name P none one other no_memory here (inl is) = subst P (sym is) no_memory
by_name P none one other no_memory here (inr is) = subst P (sym is) here

-- it is this one, for this cause
pub by_cause : {A Q : Type 0} (P : A → Type 0) (none one other : A) → P none → (Q → P one) → (other ≡ none) ⊎ (Q × (other ≡ one)) → P other
by_cause P none one other no_memory here (inl is) = subst P (sym is) no_memory
by_cause P none one other no_memory here (inr is) = subst P (sym is.1) (here is.0)

-- ---- logs

pub others : (table found : List ObjectLine) (text : List ℕ) (log : List Logged) (records applied : List Record) (outcomes : List Outcome) (all : Bool)
    → text ≡ logged_text log → records ≡ accepted_in log → found ≡ table → applied ≡ applied_from opening records
    → outcomes ≡ outcomes_of found applied → all ≡ list_all is_accepted outcomes → all ≡ false
    → IsKeptFault table text kept_fault.OtherGateway
others table found text log records applied outcomes all written read same are made tested none =
    let refused : list_all is_accepted (outcomes_of table (applied_from opening (accepted_in log))) ≡ false =
    ap (λ list. list_all is_accepted (outcomes_of table (applied_from opening list))) (sym read)
    ∙ ap (λ list. list_all is_accepted (outcomes_of table list)) (sym are)
    ∙ ap (λ lines. list_all is_accepted (outcomes_of lines applied)) (sym same)
    ∙ ap (list_all is_accepted) (sym made) ∙ sym tested ∙ none in
    (log, written, refused)

of_lines : (lines : List ObjectLine) (text : List ℕ) (fault : KeptFault) → IsKeptFault lines text fault → IsGatewayFault lines text fault
of_lines lines text kept_fault.BadTable is = absurd is
of_lines lines text (kept_fault.BadLog fault) is = is
of_lines lines text kept_fault.OtherGateway is = is
of_lines lines text kept_fault.TooMany is = is
of_lines lines text kept_fault.OutOfMemory is = is

pub as_gateway : (table lines : List ObjectLine) (text : List ℕ) → table ≡ lines → (fault : KeptFault) → IsKeptFault table text fault
    → IsGatewayFault lines text fault
as_gateway table lines text same fault is = of_lines lines text fault (subst (λ list. IsKeptFault list text fault) same is)

-- a fault of the log that doesn't depend on the objects
pub any_table : (lines table : List ObjectLine) (text : List ℕ) (fault : KeptFault) → fault ≢ kept_fault.BadTable → fault ≢ kept_fault.OtherGateway
    → IsGatewayFault lines text fault → IsKeptFault table text fault
any_table lines table text kept_fault.BadTable good own is = absurd (good refl)
any_table lines table text (kept_fault.BadLog fault) good own is = is
any_table lines table text kept_fault.OtherGateway good own is = absurd (own refl)
any_table lines table text kept_fault.TooMany good own is = is
any_table lines table text kept_fault.OutOfMemory good own is = is

-- ---- pages

pub no_page : (text : List ℕ) (fault : ReadFault) (other : ProspectFault)
    → ((page : PageView) → IsReadable page → IsSound page → text ≡ page_text page → fault ≡ reading.OutOfMemory)
    → (other ≡ OutOfMemory) ⊎ ((fault ≢ reading.OutOfMemory) × (other ≡ BadPage))
    → (other ≡ OutOfMemory) ⊎ ((other ≡ BadPage) × IsNoPage text)
no_page text fault other all (inl is) = inl is
no_page text fault other all (inr is) = inr (is.1, λ page readable sound same. is.0 (all page readable sound same))

pub of_first : {A P Q : Type 0} → A ⊎ (P × Q) → (R : Type 0) → A ⊎ (P × (Q ⊎ R))
of_first (inl is) R = inl is
of_first (inr is) R = inr (is.0, inl is.1)

pub of_second : {A P R : Type 0} → A ⊎ (P × R) → (Q : Type 0) → A ⊎ (P × (Q ⊎ R))
of_second (inl is) Q = inl is
of_second (inr is) Q = inr (is.0, inr is.1)

-- the page can't be read, or other causes
pub unreadable : (fresh : List ObjectLine) (text : List ℕ) (old : Bool) (now : Moment) (fault : ProspectFault)
    → (fault ≡ OutOfMemory) ⊎ ((fault ≡ BadPage) × IsNoPage text) → IsPageFault fresh text old now fault
unreadable fresh text old now fault (inl is) = subst (IsPageFault fresh text old now) (sym is) tt
unreadable fresh text old now fault (inr is) = subst (IsPageFault fresh text old now) (sym is.0) (inl is.1)

pub aged : (fresh : List ObjectLine) (text : List ℕ) (old : Bool) (now : Moment) (page : StatusPage) (fault : ProspectFault) → IsTextOf text page
    → (fault ≡ OutOfMemory) ⊎ ((fault ≡ BadPage) × (is_escaped_text text ≡ false))
    ⊎ ((fault ≡ Old (age_of page now)) × (is_new (age_of page now) old ≡ false))
    → IsPageFault fresh text old now fault
aged fresh text old now page fault written (inl is) = subst (IsPageFault fresh text old now) (sym is) tt
aged fresh text old now page fault written (inr (inl is)) = subst (IsPageFault fresh text old now) (sym is.0) (inr (inl is.1))
aged fresh text old now page fault written (inr (inr is)) =
    subst (IsPageFault fresh text old now) (sym is.0) (page, written, refl, is.1)

-- ---- what is sent

pub unnamed : (fresh : List ObjectLine) (until : Moment) (commands : List Body) (kept shown : List ℕ) (fault : ProspectFault)
    → shown ≡ shown_after fresh until commands
    → (fault ≡ OutOfMemory) ⊎ ((fault ≡ BadPage) × (IsNoPage kept ⊎ IsNoPage shown))
    → IsUnforeseen fresh until commands kept fault
unnamed fresh until commands kept shown fault same (inl is) = subst (IsUnforeseen fresh until commands kept) (sym is) tt
unnamed fresh until commands kept shown fault same (inr is) =
    subst (IsUnforeseen fresh until commands kept) (sym is.0) (subst (λ text. IsNoPage kept ⊎ IsNoPage text) same is.1)

-- the commands of a plan, and the page of its gateway
as_planned : (fresh : List ObjectLine) (results more : List Fate) (until sent_until : Moment) (text : List ℕ) (planned : Planned) (fault : ProspectFault)
    → IsPlanned results more text planned → until ≡ sent_until → IsUnforeseen fresh until (commands_of planned.double) planned.kept.items fault
    → IsUnforeseen fresh sent_until (sent_by results ++ sent_by more) text fault
as_planned fresh results more until sent_until text planned fault is same unforeseen =
    let commands : commands_of planned.double ≡ sent_by results ++ sent_by more =
    ap (λ list. sent_by list ++ sent_by planned.double.others.items) is.results_again
    ∙ ap (λ list. sent_by results ++ sent_by list) is.others_again in
    subst (λ moment. IsUnforeseen fresh moment (sent_by results ++ sent_by more) text fault) same
    (subst (λ kept. IsUnforeseen fresh until (sent_by results ++ sent_by more) kept fault) is.page
    (subst (λ list. IsUnforeseen fresh until list planned.kept.items fault) commands unforeseen))

-- a fault by which nothing is refused
none_refused : (fresh : List ObjectLine) (until : Moment) (commands : List Body) (text : List ℕ) (fault : ProspectFault)
    → IsUnforeseen fresh until commands text fault → first_refusal fresh until commands ≡ None → ¬ (is_refusal fault ≡ true)
none_refused fresh until commands text BadPage is none refusal = absurd (cc)
none_refused fresh until commands text (Old age) is none refusal = absurd (cc)
none_refused fresh until commands text NoLog is none refusal = absurd (cc)
none_refused fresh until commands text (Kept fault) is none refusal = absurd (cc)
none_refused fresh until commands text (Unrehearsed TooMany) is none refusal = absurd (cc)
none_refused fresh until commands text (Unrehearsed (Refused index)) is none refusal = absurd (cc)
none_refused fresh until commands text (Unrehearsed rehearsal.OutOfMemory) is none refusal = absurd (cc)
none_refused fresh until commands text OutOfMemory is none refusal = absurd (cc)

of_page : (fresh : List ObjectLine) (text : List ℕ) (old : Bool) (now : Moment) (fault : ProspectFault) → IsPageUnforeseen fresh text now fault
    → IsPageFault fresh text old now fault
of_page fresh text old now BadPage is = inr (inr is)
of_page fresh text old now (Old age) is = absurd is.2
of_page fresh text old now NoLog is = is
of_page fresh text old now (Kept fault) is = is
of_page fresh text old now (Unrehearsed fault) is = is
of_page fresh text old now OutOfMemory is = tt

pub page_unforeseen : (fresh : List ObjectLine) (text : List ℕ) (old : Bool) (now : Moment) (page : StatusPage) (until : Moment) (planned : Planned) (fault : ProspectFault)
    → IsTextOf text page → IsPlanned (object_fates fresh now page.objects.items) (page_others fresh now (until_of now) page) text planned
    → until ≡ until_of now → IsUnforeseen fresh until (commands_of planned.double) planned.kept.items fault
    → (AcknowledgesProblems page → first_refusal fresh until (commands_of planned.double) ≡ None)
    → IsPageFault fresh text old now fault
page_unforeseen fresh text old now page until planned fault written is same unforeseen accepted =
    of_page fresh text old now fault (
      page,
      written,
      as_planned fresh (object_fates fresh now page.objects.items) (page_others fresh now (until_of now) page) until (until_of now) text planned fault is same unforeseen,
      λ refusal sound. none_refused fresh until (commands_of planned.double) planned.kept.items fault unforeseen (accepted sound) refusal,
    )

of_log : (fresh configured : List ObjectLine) (page log : List ℕ) (now : Moment) (fault : ProspectFault) (kept : ApplierView)
    → AreObjectsOf page configured kept.table → IsKept kept.table log now kept
    → IsUnforeseen fresh (until_of kept.moment) (log_commands fresh kept) (status_text_at kept.table kept.opening kept.records kept.moment) fault
    → ¬ (is_refusal fault ≡ true) → IsLogFault fresh configured page log now fault
of_log fresh configured page log now BadPage kept objects is unforeseen accepted = (kept, objects, is, unforeseen)
of_log fresh configured page log now (Old age) kept objects is unforeseen accepted = (kept, objects, is, unforeseen)
of_log fresh configured page log now NoLog kept objects is unforeseen accepted = (kept, objects, is, unforeseen)
of_log fresh configured page log now (Kept fault) kept objects is unforeseen accepted = absurd unforeseen
of_log fresh configured page log now (Unrehearsed TooMany) kept objects is unforeseen accepted = (kept, objects, is, unforeseen)
of_log fresh configured page log now (Unrehearsed (Refused index)) kept objects is unforeseen accepted = absurd (accepted refl)
of_log fresh configured page log now (Unrehearsed rehearsal.OutOfMemory) kept objects is unforeseen accepted = (kept, objects, is, unforeseen)
of_log fresh configured page log now OutOfMemory kept objects is unforeseen accepted = tt

pub log_unforeseen : (fresh configured : List ObjectLine) (page log : List ℕ) (now : Moment) (kept : ApplierView) (until : Moment) (planned : Planned) (fault : ProspectFault)
    → AreObjectsOf page configured kept.table → IsKept kept.table log now kept → until ≡ until_of kept.moment
    → IsPlanned (results_of fresh kept) (others_of fresh kept until) (status_text_at kept.table kept.opening kept.records kept.moment) planned
    → IsUnforeseen fresh until (commands_of planned.double) planned.kept.items fault
    → first_refusal fresh until (commands_of planned.double) ≡ None → IsLogFault fresh configured page log now fault
log_unforeseen fresh configured page log now kept until planned fault objects is same planned_is unforeseen accepted =
    let text = status_text_at kept.table kept.opening kept.records kept.moment in
    let with_until : IsPlanned (results_of fresh kept) (others_of fresh kept (until_of kept.moment)) text planned =
    subst (λ moment. IsPlanned (results_of fresh kept) (others_of fresh kept moment) text planned) same planned_is in
    of_log fresh configured page log now fault kept objects is
    (as_planned fresh (results_of fresh kept) (others_of fresh kept (until_of kept.moment)) until (until_of kept.moment) text planned fault with_until same unforeseen)
    (none_refused fresh until (commands_of planned.double) planned.kept.items fault unforeseen accepted)
