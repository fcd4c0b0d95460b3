-- What the status 0 of `stop` means: `IsAllKept`, where a gateway shows some texts, its daemon printed some, and some pages
-- and log pages are kept. Own rule.
use Rattle.std.specs.Prelude.{◌≡◌, ◌⊎◌, ℕ, true, List, is_some}
use Rattle.status_reading.specs.declared.page.StatusPage.{StatusPage}
use Rattle.operator_restore.specs.Printed.{IsLastPage, is_whole}
use Rattle.operator_restore.specs.Prospect.{IsTextOf}

-- the last page of the gateway is kept: it shows the close
pub record IsLastKept (shows has_page : List ℕ → Type 0) : Type 0 where
  pub text : List ℕ
  pub page : StatusPage
  pub is_page : IsTextOf text page
  pub shown : shows text
  pub closing : is_some page.closing ≡ true
  pub kept : has_page text

-- the last log page that the daemon printed is kept, and whole
pub record IsLogKept (prints has_log : List ℕ → Type 0) : Type 0 where
  pub printed : List ℕ
  pub is_printed : prints printed
  pub log : List ℕ
  pub last : IsLastPage printed log
  pub whole : is_whole log ≡ true
  pub kept : has_log log

-- all that was queued is kept: the last page, or the log page
abbrev pub IsAllKept : (List ℕ → Type 0) → (List ℕ → Type 0) → (List ℕ → Type 0) → (List ℕ → Type 0) → Type 0
IsAllKept shows has_page prints has_log = IsLastKept shows has_page ⊎ IsLogKept prints has_log
