-- What the faults of single lines are for all lines.
use Rattle.std.proofs.Common.{◌≡◌, ◌≢◌, ℕ, ◌+◌, ◌<◌, ◌≤◌, List, length, take, None, refl, subst, ap, ◌∙◌, arith, inl, inr}
use Rattle.std.specs.Prelude.{Err}
use Rattle.std.proofs.lemmas.Bool.{cases_lt}
use Rattle.std.proofs.lemmas.Option.{slice_get_past}
use Rattle.std.proofs.lemmas.List.{take_all}
use Rattle.gate_model.specs.declared.object.ObjectLine.{ObjectLine}
use Rattle.gate_table.specs.declared.table.TableFault.{TableFault}
use Rattle.gate_table.specs.declared.table.TableFault.TheVariants as faults
use Rattle.gate_table.specs.declared.table_builder.TableBuilder.{TableBuilder}
use Rattle.gate_table.specs.Faults.{line_fault_at, fault_at, IsFaultOf, IsFaultless}
use Rattle.gate_table.specs.inner.TableBuilder.{TracksLines, AddsOrRefuses}

-- none of the lines before an index is faulty
abbrev pub FaultlessBelow : List ObjectLine → ℕ → Type 0
FaultlessBelow lines i = (j : ℕ) → j < i → fault_at lines j ≡ None

pub first_fault : (lines : List ObjectLine) (i : ℕ) (fault : TableFault) (builder : TableBuilder) → length lines ≤ 16384 → FaultlessBelow lines i → AddsOrRefuses lines i (Err fault) builder → IsFaultOf lines fault
first_fault lines i faults.OutOfMemory builder few before is = record {
  index = i;
  few = few;
  faultless = λ j le. elim (cases_lt j i) [ inl lt ↦ before j lt | inr ge ↦ let same : j ≡ i = omega (arith, le, ge) in ap (fault_at lines) same ∙ is ];
}
first_fault lines i (faults.BadName n) builder few before is = inr (record { index = i; few = few; here = is; first = before })
first_fault lines i (faults.NoSuchHost n) builder few before is = inr (record { index = i; few = few; here = is; first = before })
first_fault lines i (faults.DuplicateHost n) builder few before is = inr (record { index = i; few = few; here = is; first = before })
first_fault lines i (faults.DuplicateService n) builder few before is = inr (record { index = i; few = few; here = is; first = before })
first_fault lines i (faults.TooMany n) builder few before is = inr (record { index = i; few = few; here = is; first = before })

-- a line's fault is no fault of a table
pub faulty : (lines : List ObjectLine) (i : ℕ) (fault : TableFault) (builder : TableBuilder) → AddsOrRefuses lines i (Err fault) builder → fault ≢ faults.OutOfMemory → IsFaultless lines → ⊥
faulty lines i faults.OutOfMemory builder is other faultless = other refl
faulty lines i fault builder is other faultless = let none = faultless.each i in cc

-- a line without a fault after lines without one
pub faultless_next : (lines : List ObjectLine) (i : ℕ) → FaultlessBelow lines i → fault_at lines i ≡ None → FaultlessBelow lines (i + 1)
faultless_next lines i before here j lt = elim (cases_lt j i) [ inl less ↦ before j less | inr ge ↦ let same : j ≡ i = omega (arith, lt, ge) in ap (fault_at lines) same ∙ here ]

-- past the last line all lines are tracked
pub tracks_all : (lines : List ObjectLine) (i : ℕ) (builder : TableBuilder) → length lines ≤ i → TracksLines (take i lines) builder → TracksLines lines builder
tracks_all lines i builder le tracks = subst (λ (ls : List ObjectLine). TracksLines ls builder) (take_all i lines le) tracks

no_fault_past : (lines : List ObjectLine) (i : ℕ) → length lines ≤ i → fault_at lines i ≡ None
no_fault_past lines i le = ap (line_fault_at lines i) (slice_get_past lines i le)

-- where none of the lines is faulty they are faultless
pub faultless_all : (lines : List ObjectLine) (i : ℕ) → length lines ≤ 16384 → length lines ≤ i → FaultlessBelow lines i → IsFaultless lines
faultless_all lines i few le before =
    record { few = few; each = λ j. elim (cases_lt j i) [ inl lt ↦ before j lt | inr ge ↦ no_fault_past lines j (omega arith) ] }
