-- The faults of rows: of lists that stand after one another, and of lists without a fault.
use Rattle.std.proofs.Common.{◌≡◌, ℕ, ◌+◌, List, [], ◌∷◌, ◌++◌, length, Option, Some, None, refl, ap, ◌∙◌, arith}
use Rattle.std.specs.List.{AllByRecursion}
use Rattle.status_reading.specs.declared.row_faults.RowFault.{RowFault}
use Rattle.status_reading.specs.RowFaults.{first_from}

pub first-append : (line : ℕ) (front back : List (Option RowFault)) → first_from line front ≡ None
    → first_from line (front ++ back) ≡ first_from (line + length front) back
first-append line [] back none = ap (λ number. first_from number back) (omega arith)
first-append line (None ∷ front) back none =
    first-append (line + 1) front back none ∙ ap (λ number. first_from number back) (omega arith)
first-append line (Some fault ∷ front) back none = cc

pub first-front : (line : ℕ) (front back : List (Option RowFault)) (one : ℕ × RowFault) → first_from line front ≡ Some one
    → first_from line (front ++ back) ≡ Some one
first-front line [] back one is = cc
first-front line (None ∷ front) back one is = first-front (line + 1) front back one is
first-front line (Some fault ∷ front) back one is = is

-- no fault is there
pub none-there : (line : ℕ) (faults : List (Option RowFault)) → AllByRecursion (λ fault. fault ≡ None) faults
    → first_from line faults ≡ None
none-there line [] all = refl
none-there line (None ∷ faults) all = none-there (line + 1) faults all.1
none-there line (Some fault ∷ faults) all = let no = all.0 in cc
