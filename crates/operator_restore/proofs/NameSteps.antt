-- What is named of a plan: the lines, and how many.
use Rattle.std.proofs.Common.{◌≡◌, ℕ, ◌+◌, List, ◌++◌, sym, ap, ◌∙◌, arith}
use Rattle.std.specs.Prelude.{Result, IfOk, Ok, Err}
use Rattle.restore_plan.specs.declared.fates.Fate.{Fate}
use Rattle.operator_restore.specs.declared.prospect.Prospect.{Prospect}
use Rattle.operator_restore.specs.declared.prospect.ProspectFault.{ProspectFault}
use Rattle.operator_restore.specs.Naming.{left_lines}
use Rattle.operator_restore.specs.Printed.{HasNoPage, IsLastPage}

pub appended : (warning : List ℕ) (results given others more : List Fate) (rows one two all : List ℕ) → results ≡ given → others ≡ more
    → one ≡ warning ++ left_lines results → two ≡ one ++ left_lines others → all ≡ two ++ rows
    → all ≡ warning ++ left_lines given ++ left_lines more ++ rows
appended warning results given others more rows one two all same_results same_others first second third =
    third
    ∙ ap (λ start. start ++ rows)
    (second
    ∙ ap (λ start. start ++ left_lines others) (first ∙ ap (λ fates. warning ++ left_lines fates) same_results)
    ∙ ap (λ fates. warning ++ left_lines given ++ left_lines fates) same_others)

-- a text that has a last log page has one
pub has_page : (printed log : List ℕ) → IsLastPage printed log → HasNoPage printed → ⊥
has_page printed log last none = none log last.line last.begins

pub with_last : (printed log : List ℕ) (P : List ℕ → Prospect → Type 0) (result : Result Prospect ProspectFault) → IsLastPage printed log
    → IfOk result (P log) → IfOk result (λ prospect. (page : List ℕ) × IsLastPage printed page × P page prospect)
with_last printed log P (Ok prospect) last is = (log, last, is)
with_last printed log P (Err fault) last is = is
