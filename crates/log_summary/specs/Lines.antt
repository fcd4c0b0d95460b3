-- The summary of a log page: its lines, `summary_text`, and objects of JSON on a line each, `summary_json`. Own rules.
use Rattle.std.specs.Prelude.{ℕ, ◌==◌, ◌-◌, min, if◌then◌else◌, List, [], ◌∷◌, ◌++◌, length, map, codes, Option, Some, None, slice_get}
use Rattle.std.specs.List.{count_by, flat_map}
use Rattle.std.specs.Fmt.{decimal}
use Rattle.std.specs.Str.Lossy.{utf8_lossy}
use Rattle.json.specs.Json.{Json, null, string, object}
use Rattle.gate_model.specs.declared.record.Outcome.{Outcome}
use Rattle.gate_model.specs.declared.record.Outcome.TheVariants.{Accepted}
use Rattle.gate_lines.specs.LogPage.{outcome_name}
use Rattle.status_export.specs.Document.{compact_text, number_json, field_json, members_of}
use Rattle.log_reading.specs.declared.logged.Logged.{Logged}
use Rattle.log_reading.specs.declared.logged.Logged.TheVariants as logged
use Rattle.log_reading.specs.declared.logged.Refusal.{Refusal}
use Rattle.log_reading.specs.Log.{logged_line}
use Rattle.log_summary.specs.Summary.{has_outcome, reasons, host_of, refusals}

-- how many records have this outcome
abbrev pub count_of : List Logged → Outcome → ℕ
count_of log outcome = count_by (has_outcome outcome) log

-- the last of these records
abbrev pub last_of : List Logged → Option Logged
last_of group = slice_get group (length group - 1)

-- ---- lines

-- `NAME COUNT`
abbrev pub count_line : List ℕ → ℕ → List ℕ
count_line name count = name ++ codes " " ++ decimal count ++ codes "\n"

-- that of an outcome, where a record has it
abbrev pub outcome_line : List Logged → Outcome → List ℕ
outcome_line log outcome =
    if count_of log outcome == 0 then [] else count_line (outcome_name outcome) (count_of log outcome)

-- `COUNT LINE`: how many there are, and the line of the last of them
abbrev pub last_line : ℕ → Option Logged → List ℕ
last_line count (Some one) = decimal count ++ codes " " ++ logged_line one
last_line count None = []

abbrev pub group_line : List Logged → List ℕ
group_line group = last_line (length group) (last_of group)

-- how many records there are, how many of each outcome, and of each reason and host the refusals, with the last one
abbrev pub summary_text : List Logged → List ℕ
summary_text log =
    count_line (codes "records") (length log) ++ flat_map (outcome_line log) (Accepted ∷ reasons)
    ++ flat_map group_line (refusals log)

-- ---- JSON

-- a number, at most 4294967295
abbrev pub shown : ℕ → Json
shown number = number_json (min number 4294967295)

-- how many records there are, and how many of each outcome
abbrev pub counts_json : List Logged → Json
counts_json log =
    object (members_of (
    (codes "records", shown (length log))
    ∷ map (λ outcome. (outcome_name outcome, shown (count_of log outcome))) (Accepted ∷ reasons)
    ))

-- a text, and `null` where it is empty
abbrev pub word_json : List ℕ → Json
word_json [] = null
word_json (byte ∷ bytes) = string (byte ∷ bytes)

-- so many records of a host that were refused for the same reason; of the last of them also the moment, whose it was,
-- and its command
abbrev pub refusal_json : ℕ → Refusal → List ℕ → List ℕ → Json
refusal_json count one host command =
    object (members_of (
    (codes "outcome", field_json (outcome_name one.outcome))
    ∷ (codes "host", word_json host)
    ∷ (codes "count", shown count)
    ∷ (codes "moment", number_json one.moment.0)
    ∷ (codes "client", number_json one.client)
    ∷ (codes "number", shown one.number)
    ∷ (codes "command", string command)
    ∷ []
    ))

-- their line, with U+FFFD for bytes that are no UTF-8
abbrev pub refusal_line : ℕ → Option Logged → List ℕ
refusal_line count (Some (logged.Refused one)) =
    compact_text (refusal_json count one (utf8_lossy (host_of (logged.Refused one))) (utf8_lossy one.command))
    ++ codes "\n"
refusal_line count other = []

abbrev pub group_json : List Logged → List ℕ
group_json group = refusal_line (length group) (last_of group)

-- an object of the counts, and one of the refusals of each reason and host
abbrev pub summary_json : List Logged → List ℕ
summary_json log = compact_text (counts_json log) ++ codes "\n" ++ flat_map group_json (refusals log)
