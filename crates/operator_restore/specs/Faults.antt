-- Why nothing is restored: `IsPageFault` of a kept page, `IsLogFault` of a kept log. A fresh gateway refuses nothing that
-- is planned of a log, nor of a page that acknowledges problems alone, as a gateway's does. Own rule.
use Rattle.std.specs.Prelude.{◌≡◌, ◌⊎◌, ℕ, List, Bool, true, false}
use Rattle.gate_model.specs.declared.object.ObjectLine.{ObjectLine}
use Rattle.gate_model.specs.declared.record.Moment.{Moment}
use Rattle.gate_model.specs.declared.submission.Body.{Body}
use Rattle.gate_applier.specs.Applier.{ApplierView}
use Rattle.gate_pages.specs.StatusPage.{status_text_at}
use Rattle.status_reading.specs.declared.page.StatusPage.{StatusPage}
use Rattle.status_reading.specs.Page.{page_text}
use Rattle.status_reading.specs.Readable.{IsReadable}
use Rattle.status_reading.specs.RowFaults.{IsSound}
use Rattle.status_reading.specs.Rows.{PageView}
use Rattle.restore_plan.specs.declared.rehearsal.RehearsalFault.TheVariants.{Refused}
use Rattle.restore_plan.specs.Acceptance.{AcknowledgesProblems}
use Rattle.restore_plan.specs.Rehearsal.{IsUnrehearsed}
use Rattle.operator_restore.specs.declared.prospect.ProspectFault.{ProspectFault}
use Rattle.operator_restore.specs.declared.prospect.ProspectFault.TheVariants.{BadPage, Old, Kept, Unrehearsed, OutOfMemory}
use Rattle.operator_restore.specs.Escapes.{is_escaped_text}
use Rattle.operator_restore.specs.Kept.{IsKept, IsKeptFault}
use Rattle.operator_restore.specs.Prospect.{shown_after, IsTextOf, until_of, log_commands, AreObjectsOf, age_of, is_new, page_commands}

-- the text is that of no page
abbrev pub IsNoPage : List ℕ → Type 0
IsNoPage text = (page : PageView) → IsReadable page → IsSound page → text ≡ page_text page → ⊥

-- why these commands aren't sent, of a gateway whose page has this text: no page can be read again, or a fresh gateway
-- doesn't apply them with success; memory may run out at any
abbrev pub IsUnforeseen : List ObjectLine → Moment → List Body → List ℕ → ProspectFault → Type 0
IsUnforeseen fresh moment commands kept BadPage = IsNoPage kept ⊎ IsNoPage (shown_after fresh moment commands)
IsUnforeseen fresh moment commands kept (Unrehearsed fault) = IsUnrehearsed fresh moment commands fault
IsUnforeseen fresh moment commands kept OutOfMemory = Unit {0}
IsUnforeseen fresh moment commands kept _ = ⊥

-- a fresh gateway refuses one of the commands
abbrev pub is_refusal : ProspectFault → Bool
is_refusal (Unrehearsed (Refused index)) = true
is_refusal _ = false

-- what would be sent of a page of this text isn't
abbrev pub IsPageUnforeseen : List ObjectLine → List ℕ → Moment → ProspectFault → Type 0
IsPageUnforeseen fresh text now fault =
    (page : StatusPage) × IsTextOf text page
    × IsUnforeseen fresh (until_of now) (page_commands fresh now page) text fault
    × (is_refusal fault ≡ true → ¬ AcknowledgesProblems page)

-- why nothing is sent of a kept page
abbrev pub IsPageFault : List ObjectLine → List ℕ → Bool → Moment → ProspectFault → Type 0
IsPageFault fresh text old now BadPage =
    IsNoPage text ⊎ (is_escaped_text text ≡ false) ⊎ IsPageUnforeseen fresh text now BadPage
IsPageFault fresh text old now (Old age) =
    (page : StatusPage) × IsTextOf text page × (age ≡ age_of page now) × (is_new age old ≡ false)
IsPageFault fresh text old now OutOfMemory = Unit {0}
IsPageFault fresh text old now fault = IsPageUnforeseen fresh text now fault

-- why nothing is sent of a kept log
abbrev pub IsLogFault : List ObjectLine → List ObjectLine → List ℕ → List ℕ → Moment → ProspectFault → Type 0
IsLogFault fresh configured page log now (Kept fault) = IsKeptFault configured log fault
IsLogFault fresh configured page log now OutOfMemory = Unit {0}
IsLogFault fresh configured page log now (Unrehearsed (Refused index)) = ⊥
IsLogFault fresh configured page log now fault =
    (kept : ApplierView) × AreObjectsOf page configured kept.table × IsKept kept.table log now kept
    × IsUnforeseen fresh (until_of kept.moment) (log_commands fresh kept)
    (status_text_at kept.table kept.opening kept.records kept.moment) fault
