-- What restoring sends, and what it can't bring back, before anything is sent: `IsLogProspect` of a kept log,
-- `IsPageProspect` of a kept page without one. Own rules: all is applied within 30 seconds, and a page without a log is
-- restored unasked up to the age of 10 minutes.
use Rattle.std.specs.Prelude.{◌≡◌, ◌⊎◌, ◌↔◌, ℕ, ◌+◌, ◌-◌, ◌||◌, nat_le, min, true, Bool, List, [], ◌++◌, map, filter_map, codes, Option, Some, None}
use Rattle.std.specs.Fmt.{decimal}
use Rattle.gate_model.specs.declared.object.ObjectLine.{ObjectLine}
use Rattle.gate_model.specs.declared.record.Moment.{Moment}
use Rattle.gate_model.specs.declared.submission.Body.{Body}
use Rattle.gate_applier.specs.Applier.{ApplierView}
use Rattle.gate_pages.specs.StatusPage.{status_text_at}
use Rattle.status_reading.specs.declared.page.StatusPage.{StatusPage}
use Rattle.status_reading.specs.Page.{page_text}
use Rattle.status_reading.specs.Rows.{page_view}
use Rattle.restore_plan.specs.declared.fates.Fate.{Fate}
use Rattle.restore_plan.specs.Plan.{results_of, others_of, sent_of}
use Rattle.restore_plan.specs.PagePlan.{object_fates, page_others}
use Rattle.restore_plan.specs.Rehearsal.{records_from}
use Rattle.page_return.specs.declared.comparing.Missing.{Missing}
use Rattle.page_return.specs.Missing.{missing_objects, missing_comments, missing_downtimes}
use Rattle.operator_restore.specs.declared.prospect.Prospect.{Prospect}
use Rattle.operator_restore.specs.Escapes.{is_escaped_text}
use Rattle.operator_restore.specs.Pages.{kept_lines}
use Rattle.operator_restore.specs.Kept.{IsKept}
use Rattle.operator_restore.specs.Naming.{left_lines, left_count, row_lines, row_count}

-- the commands that are sent by these fates
abbrev pub sent_by : List Fate → List Body
sent_by fates = filter_map sent_of fates

-- the page that a fresh gateway shows once it has applied these, all at one moment
abbrev pub shown_after : List ObjectLine → Moment → List Body → List ℕ
shown_after fresh moment commands = status_text_at fresh moment (records_from moment 1 commands) moment

-- the text is that of a page
abbrev pub IsTextOf : List ℕ → StatusPage → Type 0
IsTextOf text page = text ≡ page_text (page_view page)

-- these are the rows of the first page that the second doesn't show
pub record AreMissing (kept shown : StatusPage) (missing : Missing) : Type 0 where
  pub objects : missing.objects.items ≡ missing_objects kept shown
  pub comments : missing.comments.items ≡ missing_comments kept shown
  pub downtimes : missing.downtimes.items ≡ missing_downtimes kept shown

-- what is sent by these fates, where the kept gateway shows the text `kept` and the fresh one the text `shown` then; the
-- lines begin with this one
pub record IsProspect (results others : List Fate) (until : Moment) (kept shown warning : List ℕ) (prospect : Prospect)
    : Type 0 where
  pub results_sent : prospect.results.items ≡ sent_by results
  pub others_sent : prospect.others.items ≡ sent_by others
  pub moment : prospect.until ≡ until
  pub kept_text : prospect.kept.items ≡ kept
  pub shown_text : prospect.shown.items ≡ shown
  pub kept_page : StatusPage
  pub shown_page : StatusPage
  pub is_kept : IsTextOf kept kept_page
  pub is_shown : IsTextOf shown shown_page
  pub foreseen : AreMissing kept_page shown_page prospect.foreseen
  pub lines : prospect.lines.items ≡ warning ++ left_lines results ++ left_lines others
      ++ row_lines (codes "not to be shown again: ") kept kept_page prospect.foreseen
  pub named : (prospect.named ≡ 0) ↔ (left_count results + left_count others + row_count prospect.foreseen ≡ 0)

-- by when all is sent that is planned at this moment; moments have 32 bits
abbrev pub until_of : Moment → Moment
until_of now = record { 0 = min (now.0 + 30) 4294967295 }

-- ---- from a log

-- all that is sent of the records of this gateway
abbrev pub log_commands : List ObjectLine → ApplierView → List Body
log_commands fresh kept = sent_by (results_of fresh kept) ++ sent_by (others_of fresh kept (until_of kept.moment))

-- the kept gateway has the objects of a kept page, or these
abbrev pub AreObjectsOf : List ℕ → List ObjectLine → List ObjectLine → Type 0
AreObjectsOf page configured table =
    (table ≡ configured) ⊎ ((kept : StatusPage) × IsTextOf page kept × (table ≡ kept_lines kept))

-- what is sent of a log page to a fresh gateway over these objects
pub record IsLogProspect (fresh configured : List ObjectLine) (page log : List ℕ) (now : Moment) (prospect : Prospect)
    : Type 0 where
  pub kept : ApplierView
  pub objects : AreObjectsOf page configured kept.table
  pub is_kept : IsKept kept.table log now kept
  pub looked_ahead : let until = until_of kept.moment in
      IsProspect (results_of fresh kept) (others_of fresh kept until) until
      (status_text_at kept.table kept.opening kept.records kept.moment)
      (shown_after fresh until (log_commands fresh kept)) [] prospect

-- ---- from a page

-- how many seconds old a page is
abbrev pub age_of : StatusPage → Moment → ℕ
age_of page now = now.0 - page.moment

-- a page of this age is restored, where an old one is asked for or not
abbrev pub is_new : ℕ → Bool → Bool
is_new age old = old || nat_le age 600

-- the line that names a page of this age
abbrev pub page_warning : ℕ → List ℕ
page_warning age =
    codes "nscagatectl: restoring from a page that is " ++ decimal age
    ++ codes " seconds old, without a log: passive checks that were disabled are enabled\n"

-- all that is sent of a page
abbrev pub page_commands : List ObjectLine → Moment → StatusPage → List Body
page_commands fresh now page =
    sent_by (object_fates fresh now page.objects.items) ++ sent_by (page_others fresh now (until_of now) page)

-- what is sent of a kept page, which is escaped and new
pub record IsPageProspect (fresh : List ObjectLine) (text : List ℕ) (old : Bool) (now : Moment) (prospect : Prospect)
    : Type 0 where
  pub page : StatusPage
  pub is_page : IsTextOf text page
  pub escaped : is_escaped_text text ≡ true
  pub new : is_new (age_of page now) old ≡ true
  pub looked_ahead : let until = until_of now in
      IsProspect (object_fates fresh now page.objects.items) (page_others fresh now until page) until text
      (shown_after fresh until (page_commands fresh now page)) (page_warning (age_of page now)) prospect

-- the line that names what is restored from, where there is a log and a page of this age, or none
abbrev pub source_line : Option ℕ → List ℕ
source_line None = codes "nscagatectl: restoring from a log without a page\n"
source_line (Some age) = codes "nscagatectl: restoring from a log, and a page that is " ++ decimal age ++ codes " seconds old\n"
