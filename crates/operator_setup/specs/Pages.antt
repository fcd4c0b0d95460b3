-- The status page that a text is: `IsPageIn`, or why there is none: `IsNoPage`.
use Rattle.std.specs.Prelude.{◌≡◌, ◌≢◌, ℕ, List}
use Rattle.status_reading.specs.declared.page.StatusPage.{StatusPage}
use Rattle.status_reading.specs.declared.page.ReadFault.{ReadFault}
use Rattle.status_reading.specs.declared.page.ReadFault.TheVariants as reading
use Rattle.status_reading.specs.Rows.{page_view}
use Rattle.status_reading.specs.Page.{page_text}
use Rattle.status_reading.specs.Readable.{IsReadable}
use Rattle.status_reading.specs.RowFaults.{IsSound}
use Rattle.status_reading.specs.Faults.{IsFaultOf}
use Rattle.operator_setup.specs.declared.fault.ControlFault.{ControlFault}
use Rattle.operator_setup.specs.declared.fault.ControlFault.TheVariants as control

-- the page, written again, is the text; its fields can be read, and no row of it has a fault
pub record IsPageIn (text : List ℕ) (page : StatusPage) : Type 0 where
  pub written : text ≡ page_text (page_view page)
  pub readable : IsReadable (page_view page)
  pub sound : IsSound (page_view page)

-- the text has a fault, or memory ran out
abbrev pub IsNoPage : List ℕ → ControlFault → Type 0
IsNoPage text control.BadPage = (fault : ReadFault) × (fault ≢ reading.OutOfMemory) × IsFaultOf text fault
IsNoPage text control.OutOfMemory = Unit {0}
IsNoPage text _ = ⊥
