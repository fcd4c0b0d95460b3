-- Which objects of a page `--state` and `--host` choose (`IsAskedFor`), and their lines (`chosen_text`). Own rules.
use Rattle.std.specs.Prelude.{◌≡◌, ℕ, ◌==◌, Bool, if◌then◌else◌, List, [], ◌∷◌, ◌++◌, drop, find, Option, Some, None}
use Rattle.std.specs.List.{flat_map, slice_split, zip}
use Rattle.std.specs.Str.{IsUtf8, str_eq_ignore_ascii_case}
use Rattle.gate_model.specs.declared.state.State.TheVariants.{Pending, Ok, Warning, Critical, Unknown, Up, Down, Unreachable}
use Rattle.status_merge.specs.declared.gateway.MergedObject.{MergedObject}
use Rattle.status_merge.specs.declared.query.Choice.{Choice}
use Rattle.status_merge.specs.declared.query.Choice.TheVariants.{All, Problems, Unhandled, Stale, In}
use Rattle.status_merge.specs.Asking.{Asked, choice_word, only}
use Rattle.status_merge.specs.Selecting.{is_selected}
use Rattle.operator_setup.specs.declared.fault.ControlFault.{ControlFault}
use Rattle.operator_setup.specs.declared.fault.ControlFault.TheVariants.{BadState, BadWords, OutOfMemory}

-- what `--state` may be
abbrev pub choices : List Choice
choices =
    All ∷ Problems ∷ Unhandled ∷ Stale ∷ In Pending ∷ In Ok ∷ In Warning ∷ In Critical ∷ In Unknown ∷ In Up ∷ In Down
    ∷ In Unreachable ∷ []

-- the word is the choice's, in any case of ASCII letters
abbrev pub is_named : List ℕ → Choice → Bool
is_named word choice = str_eq_ignore_ascii_case (choice_word choice) word

abbrev pub named_choice : List ℕ → Option Choice
named_choice word = find (is_named word) choices

-- the choice of `--state`: all objects where it isn't there
abbrev pub choice_in : Option (List ℕ) → Option Choice
choice_in None = Some All
choice_in (Some word) = named_choice word

-- the part of a host's name that `--host` asks for: any has an empty one
abbrev pub host_in : Option (List ℕ) → List ℕ
host_in None = []
host_in (Some host) = host

-- the objects of this choice and of hosts with this part in their names are asked for
abbrev pub IsAskedFor : Option (List ℕ) → Option (List ℕ) → Asked → Type 0
IsAskedFor state host asked =
    (choice : Choice) × (choice_in state ≡ Some choice) × (asked ≡ record (only choice) { host = host_in host })

-- why nothing is asked for: the word is no choice, or the text of a host's name is no UTF-8, or memory runs out
abbrev pub IsQueryFault : Option (List ℕ) → Option (List ℕ) → ControlFault → Type 0
IsQueryFault state host BadState = choice_in state ≡ None
IsQueryFault state host BadWords = ¬ (IsUtf8 (host_in host))
IsQueryFault state host OutOfMemory = Unit {0}
IsQueryFault state host fault = ⊥

-- ---- lines

-- an LF
abbrev pub is_line_end : ℕ → Bool
is_line_end byte = byte == 10

-- the lines of the objects of a page, in their order: those after the first line
abbrev pub object_lines : List ℕ → List (List ℕ)
object_lines text = drop 1 (slice_split is_line_end text)

-- the line of an object with its LF, where the object is asked for
abbrev pub chosen_line : Asked → List ℕ × MergedObject → List ℕ
chosen_line asked row = if is_selected asked row.1 then row.0 ++ 10 ∷ [] else []

-- those of all objects
abbrev pub chosen_text : Asked → List (List ℕ) → List MergedObject → List ℕ
chosen_text asked lines objects = flat_map (chosen_line asked) (zip lines objects)
