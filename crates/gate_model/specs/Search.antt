-- What a search by id finds among values whose ids ascend, and how many comparisons it may make.
use Rattle.std.specs.Prelude.{ℕ, ◌+◌, ◌^◌, ◌<◌, ◌≤◌, ◌==◌, List, length, slice_index_or, Option}
use Rattle.std.specs.List.{position_from}

-- the index of the value of this id
abbrev pub index_by : {A : Type 0} → (A → ℕ) → ℕ → List A → Option ℕ
index_by id_of id values = position_from (λ value. id_of value == id) 0 values

-- the ids ascend
abbrev pub AreAscendingBy : {A : Type 0} → (A → ℕ) → List A → Type 0
AreAscendingBy {A} id_of values =
    (index later : ℕ) (one : A) → index < later → later < length values
    → id_of (slice_index_or values index one) < id_of (slice_index_or values later one)

-- a counter rises by no more than this number has binary digits: by at most d where the number is below 2 ^ d
abbrev pub IsWithinBinaryDigits : ℕ → ℕ → ℕ → Type 0
IsWithinBinaryDigits number before after = (digits : ℕ) → number < 2 ^ digits → after ≤ before + digits
