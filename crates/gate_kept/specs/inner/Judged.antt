-- One item of a kept text: taken or named.
use Rattle.std.specs.Prelude.{◌≡◌, ◌⊎◌, ℕ, ◌+◌, false, List, [], ◌∷◌, ◌++◌, length}
use Rattle.std.specs.List.{AllByRecursion}
use Rattle.gate_grammar.specs.Spelling.{holds}
use Rattle.gate_kept.specs.declared.fault.KeptFault.{KeptFault}
use Rattle.gate_kept.specs.Kept.{lines_text, Gives, IsGoodLine, IsBadLine}

-- the item of this number was taken, as these bytes, or its fault was named
abbrev pub IsJudged : (List ℕ → Type 0) → (ℕ → List ℕ → KeptFault → Type 0) → List ℕ → ℕ → List ℕ → List ℕ → List ℕ
    → List KeptFault → List KeptFault → Type 0
IsJudged IsGood IsBad item number bytes taken taken_after faults faults_after =
    (IsGood item × (taken_after ≡ taken ++ bytes) × (faults_after ≡ faults))
    ⊎ ((fault : KeptFault) × IsBad number item fault × (taken_after ≡ taken) × (faults_after ≡ faults ++ fault ∷ []))

-- the bytes are lines and then this; these are taken, each with its LF, these are the faults, and the next line has this number
pub record AreLinesSoFar (bytes left lines : List ℕ) (number : ℕ) (bad : List KeptFault) : Type 0 where
  pub written : List (List ℕ)
  pub taken : List (List ℕ)
  pub whole : bytes ≡ lines_text written ++ left
  pub each : AllByRecursion (λ line. holds 10 line ≡ false) written
  pub counted : number ≡ length written + 1
  pub gives : Gives IsGoodLine IsBadLine 1 written taken bad
  pub text : lines ≡ lines_text taken

-- the same, where the faults were appended to others
pub record AddsLines (bytes left lines : List ℕ) (number : ℕ) (faults faults_after : List KeptFault) : Type 0 where
  pub bad : List KeptFault
  pub so_far : AreLinesSoFar bytes left lines number bad
  pub added : faults_after ≡ faults ++ bad
