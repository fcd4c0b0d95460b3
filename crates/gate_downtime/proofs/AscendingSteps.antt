-- Ascending ids, and the search among them.
use Rattle.std.proofs.Common.{◌≡◌, ℕ, ◌+◌, ◌<◌, ◌≤◌, Bool, List, [], ◌∷◌, get_or, eqb, arith, Some, zero, suc}
use Rattle.std.specs.Prelude.{slice_get}
use Rattle.std.proofs.lemmas.Option.{slice_get-get_or}
use Rattle.gate_model.proofs.Lists.{none_is_not_some, some_is}
use Rattle.gate_model.specs.Search.{AreAscendingBy}
use Rattle.gate_downtime.specs.inner.Live.{AreFrom, AreAscending}

-- the id is this one
abbrev pub same_as : ℕ → ℕ → Bool
same_as id other = eqb other id

-- an id at an index isn't below the least that they may be
pub at-least : (low : ℕ) (ids : List ℕ) → AreFrom low ids → (index : ℕ) (one : ℕ) → slice_get ids index ≡ Some one → low ≤ one
at-least low [] h index one at = absurd (none_is_not_some one at)
at-least low (id ∷ ids) h zero one at = let same : id ≡ one = some_is id one at in omega (arith, h.0, same)
at-least low (id ∷ ids) h (suc index) one at = omega (arith, h.0, at-least (id + 1) ids h.1 index one at)

rises-from : (low : ℕ) (ids : List ℕ) → AreFrom low ids → (index later : ℕ) (one two : ℕ) → slice_get ids index ≡ Some one → slice_get ids later ≡ Some two → index < later → one < two
rises-from low [] h index later one two at there lt = absurd (none_is_not_some one at)
rises-from low (id ∷ ids) h index zero one two at there lt = absurd (omega (arith, lt))
rises-from low (id ∷ ids) h zero (suc later) one two at there lt = let same : id ≡ one = some_is id one at in omega (arith, same, at-least (id + 1) ids h.1 later two there)
rises-from low (id ∷ ids) h (suc index) (suc later) one two at there lt = rises-from (id + 1) ids h.1 index later one two at there (omega (arith, lt))

-- ascending ids can be searched
pub searchable : (ids : List ℕ) → AreAscending ids → AreAscendingBy (λ (id : ℕ). id) ids
searchable ids ascending = λ index later one lt within.
    rises-from 0 ids ascending index later (get_or ids index one) (get_or ids later one) (slice_get-get_or ids index one (omega (arith, lt, within)))
    (slice_get-get_or ids later one within) lt
