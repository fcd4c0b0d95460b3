-- How many peers have addresses with the same remainder.
use Rattle.std.specs.Prelude.{◌≡◌, ℕ, ◌%◌, ◌==◌, List, length, min, EachIndex, slice_index, Option}
use Rattle.gate_turns.specs.declared.standing.Standing.{Standing}
use Rattle.gate_turns.specs.Turns.{those}

-- how many of the peers have an address with this remainder by this divisor
abbrev pub sharing : List (Option Standing) → ℕ → ℕ → ℕ
sharing peers divisor remainder = length (those (λ standing. standing.address % divisor == remainder) peers)

-- these are the counts of each remainder by their number, as far as they fit
abbrev pub AreCounts : List (Option Standing) → List ℕ → Type 0
AreCounts peers counts =
    EachIndex counts (λ remainder. slice_index counts remainder ≡ min 65535 (sharing peers (length counts) remainder))
