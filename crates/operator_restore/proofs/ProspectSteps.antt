-- What is prepared of a page or of a log, from its plan.
use Rattle.std.proofs.Common.{◌≡◌, ℕ, Bool, true, List, [], ◌++◌, sym, ap, ◌∙◌, inl, inr}
use Rattle.std.specs.Prelude.{codes, ◌⊎◌, Result, IfOk, Ok, Err}
use Rattle.std.specs.Result.{result_ok}
use Rattle.gate_model.specs.declared.object.ObjectLine.{ObjectLine}
use Rattle.gate_model.specs.declared.record.Moment.{Moment}
use Rattle.gate_applier.specs.Applier.{ApplierView}
use Rattle.gate_pages.specs.StatusPage.{status_text_at}
use Rattle.status_reading.specs.declared.page.StatusPage.{StatusPage}
use Rattle.status_reading.specs.declared.page.ReadFault.{ReadFault}
use Rattle.restore_plan.specs.declared.fates.Fate.{Fate}
use Rattle.restore_plan.specs.Plan.{results_of, others_of, commands_of}
use Rattle.restore_plan.specs.PagePlan.{object_fates, page_others}
use Rattle.operator_restore.specs.declared.prospect.Planned.{Planned}
use Rattle.operator_restore.specs.declared.prospect.Prospect.{Prospect}
use Rattle.operator_restore.specs.Escapes.{is_escaped_text}
use Rattle.operator_restore.specs.Kept.{IsKept}
use Rattle.operator_restore.specs.Prospect.{sent_by, shown_after, IsTextOf, IsProspect, until_of, AreObjectsOf, IsLogProspect, age_of, is_new, page_warning, IsPageProspect}
use Rattle.operator_restore.specs.inner.Planned.{IsPlanned, AreObjectsBy}

-- what is foreseen of a plan is foreseen of its fates
same_prospect : (fresh : List ObjectLine) (results others : List Fate) (until : Moment) (kept warning given : List ℕ) (planned : Planned) (prospect : Prospect)
    → IsPlanned results others kept planned → given ≡ warning
    → IsProspect planned.plan.results.items planned.plan.others.items until planned.kept.items (shown_after fresh until (commands_of planned.double)) given prospect
    → IsProspect results others until kept (shown_after fresh until (sent_by results ++ sent_by others)) warning prospect
same_prospect fresh results others until kept warning given planned prospect is same foreseen =
    rw (is.results_once, is.others_once, is.results_again, is.others_again, is.page, same) at foreseen

pub page_prospect : (fresh : List ObjectLine) (text : List ℕ) (old : Bool) (now : Moment) (page : StatusPage) (age : ℕ) (until : Moment) (warning : List ℕ) (planned : Planned)
    (prospect : Prospect) → IsTextOf text page → age ≡ age_of page now → is_escaped_text text ≡ true
    → is_new (age_of page now) old ≡ true
    → IsPlanned (object_fates fresh now page.objects.items) (page_others fresh now (until_of now) page) text planned
    → until ≡ until_of now → warning ≡ page_warning age
    → IsProspect planned.plan.results.items planned.plan.others.items until planned.kept.items (shown_after fresh until (commands_of planned.double)) warning prospect
    → IsPageProspect fresh text old now prospect
page_prospect fresh text old now page age until warning planned prospect written aged escaped new is by line foreseen = record {
  page = page;
  is_page = written;
  escaped = escaped;
  new = new;
  looked_ahead = same_prospect fresh _ _ (until_of now) text (page_warning (age_of page now)) warning planned prospect is (line ∙ ap page_warning aged) (rw by at foreseen);
}

-- the objects are those of the page that was read, or the configured ones
pub objects_of : (text : List ℕ) (read : Result StatusPage ReadFault) (configured table : List ObjectLine) → IfOk read (IsTextOf text)
    → AreObjectsBy (result_ok read) configured table → AreObjectsOf text configured table
objects_of text (Ok page) configured table written are = elim are [
  | inl same ↦ inl same
  | inr kept ↦ inr (page, written, kept)
]
objects_of text (Err fault) configured table written are = inl are

pub log_prospect : (fresh configured : List ObjectLine) (page log : List ℕ) (now : Moment) (kept : ApplierView) (until : Moment) (warning : List ℕ) (planned : Planned)
    (prospect : Prospect) → AreObjectsOf page configured kept.table → IsKept kept.table log now kept → until ≡ until_of kept.moment
    → IsPlanned (results_of fresh kept) (others_of fresh kept until) (status_text_at kept.table kept.opening kept.records kept.moment) planned
    → warning ≡ []
    → IsProspect planned.plan.results.items planned.plan.others.items until planned.kept.items (shown_after fresh until (commands_of planned.double)) warning prospect
    → IsLogProspect fresh configured page log now prospect
log_prospect fresh configured page log now kept until warning planned prospect objects is_kept by is none foreseen = record {
  kept = kept;
  objects = objects;
  is_kept = is_kept;
  looked_ahead = rw by at (same_prospect fresh (results_of fresh kept) (others_of fresh kept until) until (status_text_at kept.table kept.opening kept.records kept.moment) [] warning planned prospect is none foreseen);
}
