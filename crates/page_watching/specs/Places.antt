-- The places that values `NAME=ADDRESS` name (`NameAll`), and how often their pages are fetched. Own rules.
use Rattle.std.specs.Prelude.{◌≡◌, ℕ, ◌+◌, ◌<◌, ◌≤◌, ⊤, ◌==◌, List, [], ◌∷◌, length, map, take, drop, Option, Some, None}
use Rattle.std.specs.Borrow.{Bor}
use Rattle.std.specs.List.{position}
use Rattle.std.specs.Str.Parse.{IsNumeral, digits_value, without_leading_plus}
use Rattle.std.specs.Net.Grammar.{IsSocketText}
use Rattle.page_watching.specs.declared.places.Place.{Place}

-- the texts that are shared
abbrev pub texts : List (Bor (List ℕ)) → List (List ℕ)
texts = map (λ text. text.now)

-- the index of the first `=` (61)
abbrev pub equals_in : List ℕ → Option ℕ
equals_in value = position (λ byte. byte == 61) value

-- NAME of `NAME=ADDRESS`; an address alone is its own name
abbrev pub name_of : List ℕ → List ℕ
name_of value = elim (equals_in value) [ Some index ↦ take index value | None ↦ value ]

-- ADDRESS of `NAME=ADDRESS`, or the address alone
abbrev pub address_of : List ℕ → List ℕ
address_of value = elim (equals_in value) [ Some index ↦ drop (index + 1) value | None ↦ value ]

-- a value names this place, whose name is not empty
abbrev pub Names : List ℕ → Place → Type 0
Names value place =
    (place.name.now ≡ name_of value) × IsSocketText (address_of value) place.address × (0 < length (name_of value))

-- these values name these places, in their order
abbrev pub NameAll : List (List ℕ) → List Place → Type 0
NameAll [] [] = ⊤
NameAll (value ∷ values) (place ∷ places) = Names value place × NameAll values places
NameAll _ _ = ⊥

-- a text writes 1 to 30 seconds between fetches
abbrev pub WritesEvery : List ℕ → ℕ → Type 0
WritesEvery text seconds =
    IsNumeral 10 (without_leading_plus text)
    × (digits_value 10 (without_leading_plus text) ≡ seconds)
    × (1 ≤ seconds)
    × (seconds ≤ 30)
