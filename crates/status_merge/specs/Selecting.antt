-- Which objects a query selects, and in which order (`selected`), and which of them a page shows (`page_rows`). Own rules.
use Rattle.std.specs.Prelude.{ℕ, ◌*◌, ◌-◌, Bool, true, false, not, ◌==◌, ◌&&◌, ◌||◌, nat_lt, List, [], ◌∷◌, length, take, drop, filter, Option, Some, None}
use Rattle.std.specs.List.{flat_map}
use Rattle.std.specs.Str.{bytes_eq, str_eq_ignore_ascii_case}
use Rattle.gate_model.specs.State.{is_problem, is_same_state}
use Rattle.status_merge.specs.declared.gateway.MergedObject.{MergedObject}
use Rattle.status_merge.specs.declared.query.Choice.{Choice}
use Rattle.status_merge.specs.declared.query.Choice.TheVariants.{All, Problems, Unhandled, Stale, In}
use Rattle.status_merge.specs.Asking.{Asked}
use Rattle.status_merge.specs.Ranks.{is_made, is_unhandled, rank}

-- whether a text begins with a part, in any case of ASCII letters
abbrev pub begins : List ℕ → List ℕ → Bool
begins text part = str_eq_ignore_ascii_case (take (length part) text) part

-- whether a text contains a part: it begins with it, or its rest after the first byte contains it
abbrev pub has_part : List ℕ → List ℕ → Bool
has_part [] part = begins [] part
has_part (byte ∷ rest) part = begins (byte ∷ rest) part || has_part rest part

-- whether this is the name that is asked for, if one is
abbrev pub is_at : List ℕ → List ℕ → Bool
is_at wanted name = (length wanted == 0) || bytes_eq name wanted

-- whether a host is asked for: its name contains the text, and is the exact one
abbrev pub has_host : Asked → List ℕ → Bool
has_host asked host = has_part host asked.host && is_at asked.hostname host

-- whether a mark is as it is asked for, if it is
abbrev pub is_as : Option Bool → Bool → Bool
is_as None is = true
is_as (Some true) is = is
is_as (Some false) is = not is

-- whether a choice takes an object
abbrev pub has_choice : Choice → MergedObject → Bool
has_choice All object = true
has_choice Problems object = is_problem object.row.state || object.row.stale
has_choice Unhandled object = is_unhandled object
has_choice Stale object = object.row.stale
has_choice (In state) object = is_same_state object.row.state state

-- whether an object is one of those that are asked for, whatever its state
abbrev pub is_filtered : Asked → MergedObject → Bool
is_filtered asked object =
    has_host asked object.row.host.now
    && has_part object.row.service.now asked.service
    && has_part object.row.output.now asked.output
    && is_at asked.gateway object.gateway.now
    && is_as asked.acknowledged (is_made object.row.acknowledgement)
    && is_as asked.downtime (nat_lt 0 object.row.depth)

-- whether an object is one of those that are asked for
abbrev pub is_selected : Asked → MergedObject → Bool
is_selected asked object = has_choice asked.choice object && is_filtered asked object

-- those that are asked for, whatever their states
abbrev pub filtered : Asked → List MergedObject → List MergedObject
filtered asked objects = filter (is_filtered asked) objects

-- the selected objects of a rank
abbrev pub of_rank : Asked → List MergedObject → ℕ → List MergedObject
of_rank asked objects urgency = filter (λ object. (rank object == urgency) && is_selected asked object) objects

-- the selected objects by rank, and within a rank in their order
abbrev pub selected : Asked → List MergedObject → List MergedObject
selected asked objects =
    flat_map (of_rank asked objects) (0 ∷ 1 ∷ 2 ∷ 3 ∷ 4 ∷ 5 ∷ 6 ∷ 7 ∷ 8 ∷ 9 ∷ 10 ∷ [])

-- the rows of a page, from 1, of this list: 500 after those of the pages before it
abbrev pub page_rows : {X : Type 0} → ℕ → List X → List X
page_rows page rows = take 500 (drop (500 * (page - 1)) rows)
