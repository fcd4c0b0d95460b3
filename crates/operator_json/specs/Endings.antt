-- How a command ended, as JSON: `ending_json`. Own rules: the members, their order and their words.
use Rattle.std.specs.Prelude.{ℕ, List, [], ◌∷◌, Option, Some, None, option_map, codes}
use Rattle.std.specs.Str.Lossy.{utf8_lossy}
use Rattle.json.specs.Json.{Json, null, string, object}
use Rattle.gate_lines.specs.Lines.{state_name}
use Rattle.gate_model.specs.declared.state.State.{State}
use Rattle.gate_model.specs.declared.submission.Body.{Body}
use Rattle.page_changes.specs.Effects.{id_of_made}
use Rattle.operator_effects.specs.declared.ending.Ending.{Ending}
use Rattle.operator_effects.specs.declared.ending.Ending.TheVariants as ending
use Rattle.operator_effects.specs.Endings.{status_of}
use Rattle.operator_effects.specs.Messages.{message}
use Rattle.status_export.specs.Document.{number_json, members_of}

-- how it ended
abbrev pub outcome_word : Ending → List ℕ
outcome_word (ending.Shown effect) = codes "shown"
outcome_word (ending.Unseen number) = codes "unseen"
outcome_word ending.NotShown = codes "not shown"
outcome_word (ending.Refused outcome) = codes "refused"
outcome_word (ending.NotQueued reply) = codes "not queued"
outcome_word (ending.NoAnswer fault) = codes "no answer"

abbrev pub number_or_null : Option ℕ → Json
number_or_null None = null
number_or_null (Some number) = number_json number

abbrev pub state_or_null : Option State → Json
state_or_null None = null
state_or_null (Some state) = string (state_name state)

-- the id of what a command made, and the state of what it acknowledged
abbrev pub id_of : Ending → Json
id_of (ending.Shown effect) = number_or_null (option_map id_of_made effect.made)
id_of other = null

abbrev pub state_of : Ending → Json
state_of (ending.Shown effect) = state_or_null effect.state
state_of other = null

-- the object of this message
abbrev pub outcome_json : List ℕ → Ending → Json
outcome_json text given =
    object (members_of (
    (codes "status", number_json (status_of given))
    ∷ (codes "outcome", string (outcome_word given))
    ∷ (codes "id", id_of given)
    ∷ (codes "state", state_of given)
    ∷ (codes "message", string text)
    ∷ []
    ))

-- the exit status, how it ended, and the message that is printed without `--json`, in UTF-8
abbrev pub ending_json : Body → Ending → Json
ending_json body given = outcome_json (utf8_lossy (message body given)) given
