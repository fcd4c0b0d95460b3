-- The page of many objects (`marks_parts`): what became of the user's commands, one form for the objects that are marked, and
-- a row with a box for each of the first 256 objects. Own rules: all of it. A box's value is the object as desk_forms reads
-- it: a host, a semicolon and a service.
use Rattle.std.specs.Prelude.{ℕ, ◌==◌, if◌then◌else◌, List, [], ◌∷◌, ◌++◌, length, map, take, codes}
use Rattle.std.specs.List.{flat_map, enumerate_from}
use Rattle.gate_lines.specs.Lines.{state_name}
use Rattle.status_reading.specs.Rows.{ObjectView, object_view}
use Rattle.status_merge.specs.declared.query.Choice.TheVariants.{In}
use Rattle.status_merge.specs.Asking.{choice_word}
use Rattle.status_view.specs.Links.{object_link}
use Rattle.desk_view.specs.declared.marks.MarksPage.{MarksPage}
use Rattle.desk_view.specs.declared.fields.TheConstants.{MARKED}
use Rattle.desk_view.specs.Parts.{PartView}
use Rattle.status_view.specs.Layout.{Markup, Text, Number}
use Rattle.status_view.specs.Filling.{words_of, performance_of}
use Rattle.desk_view.specs.Page.{stale_mark, acknowledgement_mark, again_part, note_parts}

-- between a host and a service
abbrev pub slash_before : List ℕ → List ℕ
slash_before service = if length service == 0 then [] else codes " <span class=\"soft\">/</span> "

-- the mark of downtime
abbrev pub downtime_mark : ℕ → List ℕ
downtime_mark depth = if depth == 0 then [] else codes " <span class=\"badge\">in downtime</span>"

-- the row of the object of this index, up to its names
unfoldable pub box_parts : ℕ → ObjectView → List PartView
box_parts index row =
    Markup (codes "<tr class=\"")
    ∷ Markup (choice_word (In row.state))
    ∷ Markup (codes "\"><td class=\"name\"><label><input type=\"checkbox\" name=\"mark.")
    ∷ Number index
    ∷ Markup (codes "\" value=\"")
    ∷ Text row.host
    ∷ Markup (codes ";")
    ∷ Text row.service
    ∷ Markup (codes "\"> ")
    ∷ Text row.host
    ∷ Markup (slash_before row.service)
    ∷ Text row.service
    ∷ []

-- its state, marks and output, the performance data apart
unfoldable pub shown_parts : ObjectView → List PartView
shown_parts row =
    Markup (codes "</label></td><td class=\"cell\"><span class=\"badge state\">")
    ∷ Markup (state_name row.state)
    ∷ Markup (codes "</span>")
    ∷ Markup (stale_mark row.stale)
    ∷ Markup (acknowledgement_mark row.acknowledgement)
    ∷ Markup (downtime_mark row.depth)
    ∷ Markup (codes "</td><td class=\"out\">")
    ∷ Text (words_of row.output)
    ∷ Markup (codes " <span class=\"soft perf\">")
    ∷ Text (performance_of row.output)
    ∷ Markup (codes "</span>")
    ∷ []

-- its link
unfoldable pub link_parts : List ℕ → List PartView
link_parts link =
    Markup (codes "</td><td class=\"num cell\"><a href=\"")
    ∷ Text link
    ∷ Markup (codes "\">open</a></td></tr>\n")
    ∷ []

-- the row, with a link to the object's page
abbrev pub mark_row : ℕ × ObjectView → List PartView
mark_row item =
    box_parts item.0 item.1 ++ shown_parts item.1 ++ link_parts (object_link item.1.host item.1.service)

abbrev pub rows_parts : List ObjectView → List PartView
rows_parts rows = flat_map mark_row (enumerate_from 0 rows)

-- what is above the form, but for the notes
unfoldable pub top_parts : MarksPage → List PartView
top_parts page =
    Markup (codes "<!doctype html><html lang=\"en\"><head><meta charset=\"utf-8\"><title>Several objects</title>")
    ∷ Markup (codes "<meta name=\"viewport\" content=\"width=device-width,initial-scale=1\">")
    ∷ Markup (codes "<meta name=\"referrer\" content=\"same-origin\"><link rel=\"stylesheet\" href=\"/style.css\">")
    ∷ Markup (again_part page.again)
    ∷ Markup (codes "</head><body><main><p><a href=\"/?")
    ∷ Text page.query.now
    ∷ Markup (codes "\">")
    ∷ Text page.title.now
    ∷ Markup (codes "</a>, as ")
    ∷ Text page.user.now
    ∷ Markup (codes "</p><h1>Several objects</h1><nav><a href=\"/marks?state=unhandled\">unhandled</a> ")
    ∷ Markup (codes "<a href=\"/marks?state=problems\">problems</a> <a href=\"/marks\">all</a></nav>\n")
    ∷ []

-- the form, up to its table
unfoldable pub form_parts : MarksPage → List PartView
form_parts page =
    Markup (codes "<form method=\"post\" action=\"/commands?")
    ∷ Text page.query.now
    ∷ Markup (codes "\"><input type=\"hidden\" name=\"token\" value=\"")
    ∷ Text page.token.now
    ∷ Markup (codes "\"><input type=\"hidden\" name=\"page\" value=\"")
    ∷ Number page.page
    ∷ Markup (codes "\">")
    ∷ Markup MARKED.now
    ∷ []

-- the head of the table: how many objects are shown, and how many there are
unfoldable pub table_parts : ℕ → ℕ → List PartView
table_parts shown all =
    Markup (codes "<table><caption>")
    ∷ Number shown
    ∷ Markup (codes " of ")
    ∷ Number all
    ∷ Markup (codes " objects, the worst first</caption><thead><tr><th scope=\"col\">Object</th>")
    ∷ Markup (codes "<th scope=\"col\">State</th><th scope=\"col\">Output</th>")
    ∷ Markup (codes "<th scope=\"col\">Page</th></tr></thead><tbody>\n")
    ∷ []

-- the page
abbrev pub marks_parts : MarksPage → List PartView
marks_parts page =
    top_parts page
    ++ flat_map note_parts page.notes.now
    ++ form_parts page
    ++ table_parts (length (take 256 page.rows.now)) (length page.rows.now)
    ++ rows_parts (map object_view (take 256 page.rows.now))
    ++ Markup (codes "</tbody></table></form></main></body></html>\n") ∷ []
