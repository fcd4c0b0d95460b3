-- The lines that name what isn't restored: `left_lines` of the commands that are left out, `row_lines` of rows that aren't
-- shown again. Own rules: the lines.
use Rattle.std.specs.Prelude.{ℕ, ◌+◌, ◌==◌, Bool, true, false, List, [], ◌++◌, length, drop, codes, slice_get, Option, Some, None, ◌∷◌, if◌then◌else◌}
use Rattle.std.specs.List.{flat_map, slice_split}
use Rattle.gate_model.specs.declared.submission.Body.{Body}
use Rattle.gate_model.specs.Escaping.{escaped}
use Rattle.gate_grammar.specs.Canonical.{body_text}
use Rattle.status_reading.specs.declared.page.StatusPage.{StatusPage}
use Rattle.restore_plan.specs.declared.fates.Fate.{Fate}
use Rattle.restore_plan.specs.declared.fates.Fate.TheVariants.{Sent, Left}
use Rattle.restore_plan.specs.declared.fates.Cause.{Cause}
use Rattle.restore_plan.specs.declared.fates.Cause.TheVariants.{NoSuchObject, TooOld, Over, NoTrigger}
use Rattle.page_return.specs.declared.comparing.Missing.{Missing}

abbrev pub named_line : List ℕ → List ℕ → List ℕ
named_line front text = codes "nscagatectl: " ++ front ++ text ++ codes "\n"

-- a command, with the escapes of a page
abbrev pub command_line : List ℕ → Body → List ℕ
command_line front body = named_line front (escaped (body_text body))

-- why a command is left out
abbrev pub cause_text : Cause → List ℕ
cause_text NoSuchObject = codes "the gateway has no such object"
cause_text TooOld = codes "the result is older than its object's freshness"
cause_text Over = codes "its window is over"
cause_text NoTrigger = codes "its trigger isn't scheduled again"

-- what stands before a command that is left out
abbrev pub left_front : Cause → List ℕ
left_front cause = codes "not sent, since " ++ cause_text cause ++ codes ": "

-- the line of a command that is left out
abbrev pub left_line : Fate → List ℕ
left_line (Sent body) = []
left_line (Left cause body) = command_line (left_front cause) body

-- those of all commands that are
abbrev pub left_lines : List Fate → List ℕ
left_lines fates = flat_map left_line fates

abbrev pub is_left : Fate → Bool
is_left (Sent body) = false
is_left (Left cause body) = true

-- how many commands are left out
abbrev pub left_count : List Fate → ℕ
left_count [] = 0
left_count (fate ∷ fates) = if is_left fate then left_count fates + 1 else left_count fates

-- the line that names a row by its line of the page, where there is one
abbrev pub row_line : List ℕ → Option (List ℕ) → List ℕ
row_line front None = []
row_line front (Some line) = named_line front line

-- the lines of the rows of these indexes
abbrev pub rows_named : List ℕ → List (List ℕ) → List ℕ → List ℕ
rows_named front lines indexes = flat_map (λ index. row_line front (slice_get lines index)) indexes

-- the lines of a page's text
abbrev pub lines_of : List ℕ → List (List ℕ)
lines_of text = slice_split (λ byte. byte == 10) text

-- from that of the first object on
abbrev pub object_lines : List ℕ → List (List ℕ)
object_lines text = drop 1 (lines_of text)

-- from that of the first comment on
abbrev pub comment_lines : List ℕ → StatusPage → List (List ℕ)
comment_lines text page = drop (length page.objects.items) (object_lines text)

-- from that of the first downtime entry on
abbrev pub downtime_lines : List ℕ → StatusPage → List (List ℕ)
downtime_lines text page = drop (length page.comments.items) (comment_lines text page)

-- the lines that name these rows of the page of a text
abbrev pub row_lines : List ℕ → List ℕ → StatusPage → Missing → List ℕ
row_lines front text page missing =
    rows_named front (object_lines text) missing.objects.items
    ++ rows_named front (comment_lines text page) missing.comments.items
    ++ rows_named front (downtime_lines text page) missing.downtimes.items

-- how many rows are missing
abbrev pub row_count : Missing → ℕ
row_count missing = length missing.objects.items + length missing.comments.items + length missing.downtimes.items
