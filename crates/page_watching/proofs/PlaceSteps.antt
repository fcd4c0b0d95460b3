-- Values, one after another: which places they name, and when two have one name.
use Rattle.std.proofs.Common.{◌≡◌, ◌⊎◌, ℕ, ◌+◌, ◌<◌, Bool, true, false, ◌||◌, ◌==◌, cond, List, [], ◌∷◌, ◌++◌, length, map, take, drop, get_or, Bor, ◌≤◌, Option, Some, None, refl, ap, ◌∙◌, sym, inl, inr, subst, append_assoc, arith}
use Rattle.std.proofs.lemmas.Bool.{eqb-true, false≢true, lt-ltb, le-ltb}
use Rattle.std.proofs.lemmas.List.{append-nil, at_drop_more, drop_all, get_or-map, length-map, map-append}
use Rattle.std.specs.List.{Any, AllByRecursion, IsDistinct, list_any, position_or_len, before_first, after_first}
use Rattle.std.specs.Str.{bytes_eq}
use Rattle.page_watching.specs.declared.places.Place.{Place}
use Rattle.page_watching.specs.Places.{texts, equals_in, name_of, address_of, Names, NameAll}

-- ---- where a value is cut

-- the index of the first `=`, or the length
abbrev equals_or_end : List ℕ → ℕ
equals_or_end value = position_or_len (λ byte. byte == 61) value

found_at : (value : List ℕ) → equals_or_end value < length value → equals_in value ≡ Some (equals_or_end value)
found_at value inside =
    ap (λ is. cond is (Some (equals_or_end value)) None) (lt-ltb (equals_or_end value) (length value) inside)

found_none : (value : List ℕ) → equals_or_end value ≡ length value → equals_in value ≡ None
found_none value ends =
    ap (λ is. cond is (Some (equals_or_end value)) None)
    (le-ltb (equals_or_end value) (length value) (omega (arith, ends)))

abbrev name_at : List ℕ → Option ℕ → List ℕ
name_at value found = elim found [ Some index ↦ take index value | None ↦ value ]

abbrev address_at : List ℕ → Option ℕ → List ℕ
address_at value found = elim found [ Some index ↦ drop (index + 1) value | None ↦ value ]

pub cut_at : (value : List ℕ) → position_or_len (λ byte. byte == 61) value < length value
    → (before_first (λ byte. byte == 61) value ≡ name_of value)
    × (after_first (λ byte. byte == 61) value ≡ address_of value)
cut_at value inside =
    (sym (ap (name_at value) (found_at value inside)), sym (ap (address_at value) (found_at value inside)))

pub uncut : (value : List ℕ) → position_or_len (λ byte. byte == 61) value ≡ length value
    → (value ≡ name_of value) × (value ≡ address_of value)
uncut value ends =
    (sym (ap (name_at value) (found_none value ends)), sym (ap (address_at value) (found_none value ends)))

-- ---- names that are empty

pub empty_name : (name value : List ℕ) → name ≡ name_of value → (length name == 0) ≡ true → 0 < length (name_of value) → ⊥
empty_name name value is none some =
    let zero = eqb-true (length name) 0 none in
    let same : length name ≡ length (name_of value) = ap length is in
    absurd (omega (arith, zero, same, some))

not_empty : (name : List ℕ) → (length name == 0) ≡ false → 0 < length name
not_empty [] some = absurd (false≢true (sym some))
not_empty (byte ∷ rest) some = omega arith

pub some_name : (name value : List ℕ) → name ≡ name_of value → (length name == 0) ≡ false → 0 < length (name_of value)
some_name name value is some = subst (λ (name : List ℕ). 0 < length name) is (not_empty name some)

-- ---- names that differ

or_split : (a b : Bool) → (a || b) ≡ false → (a ≡ false) × (b ≡ false)
or_split true b none = absurd (false≢true (sym none))
or_split false b none = (refl, none)

or_cases : (a b : Bool) → (a || b) ≡ true → (a ≡ true) ⊎ (b ≡ true)
or_cases true b found = inl refl
or_cases false b found = inr found

all_with : (first : List ℕ) (names : List (List ℕ)) (name : List ℕ)
    → AllByRecursion (λ other. bytes_eq first other ≡ false) names
    → bytes_eq first name ≡ false → AllByRecursion (λ other. bytes_eq first other ≡ false) (names ++ name ∷ [])
all_with first [] name all differs = (differs, tt)
all_with first (other ∷ names) name all differs = (all.0, all_with first names name all.1 differs)

-- a name that is not among distinct ones
pub distinct_with : (names : List (List ℕ)) (name : List ℕ) → IsDistinct bytes_eq names
    → list_any (λ known. bytes_eq known name) names ≡ false → IsDistinct bytes_eq (names ++ name ∷ [])
unfolding IsDistinct
distinct_with [] name distinct none = (tt, tt)
distinct_with (first ∷ names) name distinct none =
    let parts = or_split (bytes_eq first name) (list_any (λ known. bytes_eq known name) names) none in
    (all_with first names name distinct.0 parts.0, distinct_with names name distinct.1 parts.1)

not_all : (first : List ℕ) (names : List (List ℕ)) (name : List ℕ) (rest : List (List ℕ)) → bytes_eq first name ≡ true
    → AllByRecursion (λ other. bytes_eq first other ≡ false) (names ++ name ∷ rest) → ⊥
not_all first [] name rest same all = false≢true (sym all.0 ∙ same)
not_all first (other ∷ names) name rest same all = not_all first names name rest same all.1

-- a name that is among those before it
pub not_distinct : (names : List (List ℕ)) (name : List ℕ) (rest : List (List ℕ))
    → list_any (λ known. bytes_eq known name) names ≡ true
    → IsDistinct bytes_eq (names ++ name ∷ rest) → ⊥
unfolding IsDistinct
not_distinct [] name rest found distinct = false≢true found
not_distinct (first ∷ names) name rest found distinct =
    elim (or_cases (bytes_eq first name) (list_any (λ known. bytes_eq known name) names) found) [
      | inl same ↦ not_all first names name rest same distinct.0
      | inr later ↦ not_distinct names name rest later distinct.1
    ]

-- ---- places that are named

-- the names of places
abbrev pub names_of : List Place → List (List ℕ)
names_of places = map (λ place. place.name.now) places

-- what is left names the places that stand after these
abbrev pub GoesOn : List (List ℕ) → List Place → List (List ℕ) → Type 0
GoesOn values places left = (after : List Place) → NameAll left after → NameAll values (places ++ after)

pub goes_on : (values : List (List ℕ)) (places : List Place) (value : List ℕ) (left : List (List ℕ)) (place : Place)
    → GoesOn values places (value ∷ left) → Names value place → GoesOn values (places ++ place ∷ []) left
goes_on values places value left place go names after left_names =
    subst (NameAll values) (sym (append_assoc places (place ∷ []) after)) (go (place ∷ after) (names, left_names))

pub all_named : (values : List (List ℕ)) (places : List Place) → GoesOn values places [] → NameAll values places
all_named values places go = subst (NameAll values) (append-nil places) (go [] tt)

-- ---- a loop over values

-- the value at an index
abbrev pub value_at : List (Bor (List ℕ)) → ℕ → List ℕ
value_at values index = (get_or values index (record { ref_ptr = (0, 0); now = [] })).now

-- and those after it
abbrev pub after_at : List (Bor (List ℕ)) → ℕ → List (List ℕ)
after_at values index = texts (drop (index + 1) values)

-- a fact of the value at an index
pub any_text : (values : List (Bor (List ℕ))) (index : ℕ) (P : List ℕ → Type 0) → index < length values
    → P (value_at values index) → Any P (texts values)
any_text values index P inside here =
    let text : Bor (List ℕ) → List ℕ = λ text. text.now in
    let within : index < length (texts values) = omega (arith, length-map values text) in
    let at = get_or-map text values index (record { ref_ptr = (0, 0); now = [] }) (value_at values index) inside in
    (index, value_at values index, within, at, here)

pub left_at : (values : List (Bor (List ℕ))) (index : ℕ) → index < length values
    → texts (drop index values) ≡ value_at values index ∷ after_at values index
left_at values index inside = at_drop_more texts values index (record { ref_ptr = (0, 0); now = [] }) inside

pub none_left : (values : List (Bor (List ℕ))) (index : ℕ) → length values ≤ index → texts (drop index values) ≡ []
none_left values index ends = ap texts (drop_all index values ends)

pub distinct_none : IsDistinct bytes_eq []
unfolding IsDistinct
distinct_none = tt

names_with : (places : List Place) (place : Place)
    → names_of (places ++ place ∷ []) ≡ names_of places ++ place.name.now ∷ []
names_with places place = map-append (λ (place : Place). place.name.now) places (place ∷ [])

pub names_step : (places : List Place) (place : Place) (value : List ℕ) (left all : List (List ℕ))
    → place.name.now ≡ name_of value
    → names_of places ++ map name_of (value ∷ left) ≡ all → names_of (places ++ place ∷ []) ++ map name_of left ≡ all
names_step places place value left all name names =
    ap (λ known. known ++ map name_of left) (names_with places place)
    ∙ append_assoc (names_of places) (place.name.now ∷ []) (map name_of left)
    ∙ ap (λ (first : List ℕ). names_of places ++ first ∷ map name_of left) name
    ∙ names

named_among : (places : List Place) (name : List ℕ)
    → list_any (λ place. bytes_eq place.name.now name) places
    ≡ list_any (λ known. bytes_eq known name) (names_of places)
named_among [] name = refl
named_among (place ∷ places) name = ap (λ rest. bytes_eq place.name.now name || rest) (named_among places name)

pub distinct_step : (places : List Place) (place : Place) → IsDistinct bytes_eq (names_of places)
    → false ≡ list_any (λ known. bytes_eq known.name.now place.name.now) places
    → IsDistinct bytes_eq (names_of (places ++ place ∷ []))
distinct_step places place distinct none =
    subst (IsDistinct bytes_eq) (sym (names_with places place))
    (distinct_with (names_of places) place.name.now distinct (sym (named_among places place.name.now) ∙ sym none))

pub named_again : (places : List Place) (place : Place) (value : List ℕ) (left all : List (List ℕ))
    → place.name.now ≡ name_of value → names_of places ++ map name_of (value ∷ left) ≡ all
    → true ≡ list_any (λ known. bytes_eq known.name.now place.name.now) places
    → IsDistinct bytes_eq all → ⊥
named_again places place value left all name names found distinct =
    not_distinct (names_of places) (name_of value) (map name_of left)
    (subst (λ (name : List ℕ). list_any (λ known. bytes_eq known name) (names_of places) ≡ true) name
    (sym (named_among places place.name.now) ∙ sym found))
    (subst (IsDistinct bytes_eq) (sym names) distinct)
