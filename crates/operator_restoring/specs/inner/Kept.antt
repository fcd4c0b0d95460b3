-- For proofs and private functions alone: what was kept so far of a gateway that is stopped.
use Rattle.std.specs.Prelude.{ℕ, List}
use Rattle.operator_restoring.specs.declared.stopping.Kept.{Kept}
use Rattle.operator_restoring.specs.declared.stopping.Kept.TheVariants.{Nothing, Page, LastPage, Log}
use Rattle.operator_restoring.specs.Stopped.{IsLastKept, IsLogKept}

-- what was kept is a last page or a log page, where it is called so
abbrev pub IsKeptAs : (List ℕ → Type 0) → (List ℕ → Type 0) → (List ℕ → Type 0) → (List ℕ → Type 0) → Kept → Type 0
IsKeptAs shows has_page prints has_log LastPage = IsLastKept shows has_page
IsKeptAs shows has_page prints has_log Log = IsLogKept prints has_log
IsKeptAs shows has_page prints has_log Page = Unit {0}
IsKeptAs shows has_page prints has_log Nothing = Unit {0}
