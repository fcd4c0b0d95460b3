-- A run's log: its configuration, the moment of its opening, a line for each record, a mark after those that were kept
-- for it, and the moment of its close. A record's line is that of the log page. Own rules. `run_log_text` is the main
-- definition.
use Rattle.std.specs.Prelude.{ℕ, ◌+◌, ◌==◌, if◌then◌else◌, List, [], ◌∷◌, ◌++◌, drop, length, Option, Some, None, codes}
use Rattle.std.specs.List.{zip}
use Rattle.std.specs.Fmt.{decimal}
use Rattle.gate_model.specs.declared.record.Moment.{Moment}
use Rattle.gate_model.specs.declared.record.Outcome.{Outcome}
use Rattle.gate_model.specs.declared.record.Record.{Record}
use Rattle.gate_lines.specs.LogPage.{log_line}

-- a line of a word and a number
abbrev pub numbered_line : List ℕ → ℕ → List ℕ
numbered_line word number = word ++ decimal number ++ codes "\n"

-- its first lines: when it was opened, and how many bytes its configuration has, then that, and an end of line
abbrev pub front_text : (configuration : List ℕ) → (opening : Moment) → List ℕ
front_text configuration opening =
    numbered_line (codes "opened ") opening.0
    ++ (numbered_line (codes "configuration ") (length configuration) ++ (configuration ++ codes "\n"))

-- after so many records: the mark that this is all that was kept for the run, where it is
abbrev pub mark_after : (kept count : ℕ) → List ℕ
mark_after kept count = if count == kept then numbered_line (codes "restored ") kept else []

-- the lines of these records, before which there are so many
abbrev pub lines_after : (kept count : ℕ) → List (Record × Outcome) → List ℕ
lines_after kept count [] = []
lines_after kept count (entry ∷ entries) =
    (log_line entry ++ mark_after kept (count + 1)) ++ lines_after kept (count + 1) entries

-- the lines that are still to come, where so many records have one
abbrev pub lines_left : (kept told : ℕ) → List Record → List Outcome → List ℕ
lines_left kept told records outcomes = lines_after kept told (zip (drop told records) (drop told outcomes))

-- what is still to come: the first lines, where they are not there yet, and the lines of the other records
abbrev pub still_to_come : (configuration : Option (List ℕ)) → (kept told : ℕ) → (opening : Moment) → List Record → List Outcome → List ℕ
still_to_come (Some configuration) kept told opening records outcomes =
    (front_text configuration opening ++ mark_after kept 0) ++ lines_left kept told records outcomes
still_to_come None kept told opening records outcomes = lines_left kept told records outcomes

-- its last line: the moment of the last record, or of the clock where that is later
abbrev pub closed_line : Moment → List ℕ
closed_line moment = numbered_line (codes "closed ") moment.0

-- the log of a run with this configuration, opened at this moment, with these records
abbrev pub run_log_text : (configuration : List ℕ) → (opening : Moment) → (kept : ℕ) → List Record → List Outcome → List ℕ
run_log_text configuration opening kept records outcomes = still_to_come (Some configuration) kept 0 opening records outcomes
