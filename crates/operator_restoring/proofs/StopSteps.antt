-- What is kept of a gateway that is stopped.
use Rattle.std.proofs.Common.{◌≡◌, ℕ, List, sym, subst, inl, inr}
use Rattle.std.specs.Prelude.{◌⊎◌}
use Rattle.operator_restoring.specs.declared.stopping.Kept.{Kept}
use Rattle.operator_restoring.specs.declared.stopping.Kept.TheVariants.{LastPage, Log}
use Rattle.operator_restoring.specs.Stopped.{IsAllKept}
use Rattle.operator_restoring.specs.inner.Kept.{IsKeptAs}

-- the better of two is one of them
pub kept_better : (shows has_page prints has_log : List ℕ → Type 0) (one other found : Kept) → (found ≡ one) ⊎ (found ≡ other)
    → IsKeptAs shows has_page prints has_log one → IsKeptAs shows has_page prints has_log other
    → IsKeptAs shows has_page prints has_log found
kept_better shows has_page prints has_log one other found (inl same) first second =
    subst (IsKeptAs shows has_page prints has_log) (sym same) first
kept_better shows has_page prints has_log one other found (inr same) first second =
    subst (IsKeptAs shows has_page prints has_log) (sym same) second

-- a last page or a log page is kept
pub all_kept : (shows has_page prints has_log : List ℕ → Type 0) (kept : Kept) → (kept ≡ LastPage) ⊎ (kept ≡ Log)
    → IsKeptAs shows has_page prints has_log kept → IsAllKept shows has_page prints has_log
all_kept shows has_page prints has_log kept (inl same) is = inl (subst (IsKeptAs shows has_page prints has_log) same is)
all_kept shows has_page prints has_log kept (inr same) is = inr (subst (IsKeptAs shows has_page prints has_log) same is)
