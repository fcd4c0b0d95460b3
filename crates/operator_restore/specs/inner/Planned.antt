-- For proofs and private functions alone: a plan and what is named of it.
use Rattle.std.specs.Prelude.{◌≡◌, ◌⊎◌, ◌↔◌, ℕ, ◌+◌, List, ◌++◌, codes, Option, Some, None}
use Rattle.gate_model.specs.declared.object.ObjectLine.{ObjectLine}
use Rattle.status_reading.specs.declared.page.StatusPage.{StatusPage}
use Rattle.restore_plan.specs.declared.fates.Fate.{Fate}
use Rattle.operator_restore.specs.declared.prospect.Named.{Named}
use Rattle.operator_restore.specs.declared.prospect.Planned.{Planned}
use Rattle.operator_restore.specs.Naming.{left_lines, left_count, row_lines, row_count}
use Rattle.operator_restore.specs.Pages.{kept_lines}
use Rattle.operator_restore.specs.Prospect.{IsTextOf, AreMissing}

-- what is named of these fates, and of the rows of the kept page that the other one doesn't show
pub record IsNamed (results others : List Fate) (kept shown warning : List ℕ) (named : Named) : Type 0 where
  pub kept_page : StatusPage
  pub shown_page : StatusPage
  pub is_kept : IsTextOf kept kept_page
  pub is_shown : IsTextOf shown shown_page
  pub foreseen : AreMissing kept_page shown_page named.foreseen
  pub lines : named.lines.items ≡ warning ++ left_lines results ++ left_lines others
      ++ row_lines (codes "not to be shown again: ") kept kept_page named.foreseen
  pub count : (named.count ≡ 0) ↔ (left_count results + left_count others + row_count named.foreseen ≡ 0)

-- a plan of these fates, twice, and the kept page
pub record IsPlanned (results others : List Fate) (kept : List ℕ) (planned : Planned) : Type 0 where
  pub results_once : planned.plan.results.items ≡ results
  pub others_once : planned.plan.others.items ≡ others
  pub results_again : planned.double.results.items ≡ results
  pub others_again : planned.double.others.items ≡ others
  pub page : planned.kept.items ≡ kept

-- the kept gateway has the objects of this page, or the configured ones
abbrev pub AreObjectsBy : Option StatusPage → List ObjectLine → List ObjectLine → Type 0
AreObjectsBy None configured table = table ≡ configured
AreObjectsBy (Some page) configured table = (table ≡ configured) ⊎ (table ≡ kept_lines page)
