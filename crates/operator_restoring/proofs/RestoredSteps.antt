-- What is planned of a log, or of a page.
use Rattle.std.proofs.Common.{◌≡◌, ℕ, zero, suc, ◌+◌, ◌<◌, Bool, false, List, ◌++◌, length, get_or, drop, inl, inr, refl, sym, ap, ◌∙◌, append_assoc, arith}
use Rattle.std.specs.List.{flat_map}
use Rattle.std.specs.Prelude.{◌==◌, if◌then◌else◌}
use Rattle.std.proofs.lemmas.Bool.Decides.{nat_tests}
use Rattle.std.proofs.lemmas.List.{at_drop_more}
use Rattle.gate_model.specs.declared.object.ObjectLine.{ObjectLine}
use Rattle.gate_model.specs.declared.record.Moment.{Moment}
use Rattle.operator_restore.specs.declared.prospect.Prospect.{Prospect}
use Rattle.operator_restore.specs.Prospect.{IsLogProspect, IsPageProspect}
use Rattle.operator_restoring.specs.Restored.{IsPlannedAt}

pub of_log : (fresh configured : List ObjectLine) (page log : List ℕ) (now : Moment) (prospect : Prospect)
    → IsLogProspect fresh configured page log now prospect → (old : Bool) → IsPlannedAt old now prospect
unfolding IsPlannedAt
of_log fresh configured page log now prospect is old =
    inl (record { fresh = fresh; configured = configured; page = page; log = log; planned = is })

pub of_page : (fresh : List ObjectLine) (text : List ℕ) (old : Bool) (now : Moment) (prospect : Prospect)
    → IsPageProspect fresh text old now prospect → IsPlannedAt old now prospect
unfolding IsPlannedAt
of_page fresh text old now prospect is = inr (record { fresh = fresh; text = text; planned = is })

-- one more row is appended
pub row-appended : {Row : Type 0} (line : Row → List ℕ) (rows : List Row) (index : ℕ) (row : Row) (out new whole : List ℕ)
    → index < length rows → row ≡ get_or rows index row → new ≡ out ++ line row
    → out ++ flat_map line (drop index rows) ≡ whole → new ++ flat_map line (drop (index + 1) rows) ≡ whole
row-appended line rows index row out new whole less is added same =
    let rest = flat_map line (drop (index + 1) rows) in
    ap (λ front. front ++ rest) added
    ∙ append_assoc out (line row) rest
    ∙ ap (λ next. out ++ (line next ++ rest)) is
    ∙ ap (λ back. out ++ back) (sym (at_drop_more (flat_map line) rows index row less))
    ∙ same

-- the status by whether none is named
abbrev status_of_test : Bool → ℕ
status_of_test is_none = if is_none then 0 else 1

-- the status by how many are named
abbrev status_by : ℕ → ℕ
status_by named = if named == 0 then 0 else 1

some_named : (named : ℕ) → (suc named == 0) ≡ false
some_named named = grind (arith, nat_tests)

status_of_some : (named : ℕ) → status_by (suc named) ≡ status_of_test false
status_of_some named = ap status_of_test (some_named named)

-- it is the same of two counts that are 0 together
pub status_same : (named total : ℕ) → (named ≡ 0 → total ≡ 0) → (total ≡ 0 → named ≡ 0) → status_by named ≡ status_by total
status_same zero zero down up = refl
status_same zero (suc total) down up = absurd (omega (arith, down refl))
status_same (suc named) zero down up = absurd (omega (arith, up refl))
status_same (suc named) (suc total) down up = status_of_some named ∙ sym (status_of_some total)
