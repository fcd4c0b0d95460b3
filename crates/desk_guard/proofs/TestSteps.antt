-- Tests one after another: where the first ones pass, the rest decide.
use Rattle.std.proofs.Common.{◌≡◌, Bool, true, false, List, [], ◌∷◌, ◌++◌, Option, Some, None, refl, ap, ◌∙◌, inl, inr, filter, ℕ, unwrap_or}
use Rattle.std.proofs.lemmas.Bool.{cases_Bool}
use Rattle.desk_guard.specs.declared.refusal.Refusal.{Refusal}
use Rattle.desk_guard.specs.Tests.{first_failed, Refuses}

-- those that pass
pub pass_first : (first rest : List (Bool × Refusal)) → first_failed first ≡ None → first_failed (first ++ rest) ≡ first_failed rest
pass_first [] rest passed = refl
pass_first ((true, refusal) ∷ first) rest passed = pass_first first rest passed
pass_first ((false, refusal) ∷ first) rest passed = cc

-- one that fails
pub fail_first : (first rest : List (Bool × Refusal)) (given : Refusal) → first_failed first ≡ Some given
    → first_failed (first ++ rest) ≡ Some given
fail_first [] rest given failed = cc
fail_first ((true, refusal) ∷ first) rest given failed = fail_first first rest given failed
fail_first ((false, refusal) ∷ first) rest given failed = failed

pub refuses_first : (first rest : List (Bool × Refusal)) (given : Refusal) → Refuses first given → Refuses (first ++ rest) given
refuses_first first rest given (inl memory) = inl memory
refuses_first first rest given (inr failed) = inr (fail_first first rest given failed)

pub refuses_rest : (first rest : List (Bool × Refusal)) (given : Refusal) → first_failed first ≡ None → Refuses rest given
    → Refuses (first ++ rest) given
refuses_rest first rest given passed (inl memory) = inl memory
refuses_rest first rest given passed (inr failed) = inr (pass_first first rest passed ∙ failed)

-- what a filter keeps stays under the same filter
pub kept_again : {X : Type 0} (test : X → Bool) (items : List X) → filter test (filter test items) ≡ filter test items
kept_again test [] = refl
kept_again test (item ∷ items) = elim (cases_Bool (test item)) [
  | inl passes ↦ rw passes (rw passes (ap (λ rest. item ∷ rest) (kept_again test items)))
  | inr fails ↦ rw fails (kept_again test items)
]

-- a value that is there
pub is_there : (value : Option (List ℕ)) (text : List ℕ) → value ≡ Some text → unwrap_or value [] ≡ text
is_there value text is = ap (λ (one : Option (List ℕ)). unwrap_or one []) is
