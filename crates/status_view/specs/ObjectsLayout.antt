-- The list of objects: `objects_nodes`, and the row of an object: `object_nodes`. Own rules.
use Rattle.std.specs.Prelude.{ℕ, ◌+◌, ◌-◌, ◌/◌, Bool, true, false, not, ◌==◌, nat_lt, if◌then◌else◌, List, [], ◌∷◌, ◌++◌, length, Option, Some, None, codes}
use Rattle.std.specs.List.{flat_map, range_with_len}
use Rattle.gate_lines.specs.Lines.{state_name}
use Rattle.status_reading.specs.declared.rows.ShownAcknowledgement.{ShownAcknowledgement}
use Rattle.status_reading.specs.declared.rows.ShownAcknowledgement.TheVariants.{Missing, Normal, Sticky}
use Rattle.status_memory.specs.declared.history.Since.{Since as SinceWhen}
use Rattle.status_merge.specs.declared.query.Choice.TheVariants.{In}
use Rattle.status_merge.specs.declared.query.Sort.{Sort}
use Rattle.status_merge.specs.declared.query.Sort.TheVariants.{Worst, Host, Since, Last}
use Rattle.status_merge.specs.Asking.{choice_word}
use Rattle.status_view.specs.declared.layout.EntryList.TheVariants.{Comments}
use Rattle.status_view.specs.declared.layout.EntryText.TheVariants as words
use Rattle.status_view.specs.declared.layout.Slot.TheVariants as slot
use Rattle.status_view.specs.declared.layout.ObjectText.TheVariants as text
use Rattle.status_view.specs.declared.shape.ObjectShape.{ObjectShape}
use Rattle.status_view.specs.Layout.{NodeView, Markup, Number, Text, nodes_if, each_indexed}
use Rattle.status_view.specs.Times.{span_nodes, moment_nodes}
use Rattle.status_view.specs.Shapes.{PageShapeView}

-- the name of the object of this index, as the link to its page: its host, and its service where it is one
unfoldable pub object_name_nodes : ℕ → Bool → List NodeView
object_name_nodes index is_host =
    (Markup (codes "<td class=\"name\"><a href=\"")
    ∷ Text (slot.Object index text.Link)
    ∷ Markup (codes "\"><bdi>")
    ∷ Text (slot.Object index text.Host)
    ∷ [])
    ++ nodes_if (not is_host)
    (Markup (codes "</bdi> <span class=\"soft\">/</span> <bdi>") ∷ Text (slot.Object index text.Service) ∷ [])
    ++ (Markup (codes "</bdi></a></td>") ∷ [])

-- the mark of an acknowledgement
unfoldable pub acknowledgement_nodes : ShownAcknowledgement → List NodeView
acknowledgement_nodes Missing = []
acknowledgement_nodes Normal = Markup (codes "<span class=\"badge\">acknowledged</span> ") ∷ []
acknowledgement_nodes Sticky = Markup (codes "<span class=\"badge\">acknowledged, sticky</span> ") ∷ []

-- who acknowledged and why, by the comment of this place
unfoldable pub reason_nodes : Option ℕ → List NodeView
reason_nodes None = []
reason_nodes (Some index) =
    Markup (codes "<span class=\"why\">by <bdi>")
    ∷ Text (slot.Entry Comments index words.Author)
    ∷ Markup (codes "</bdi>: ")
    ∷ Text (slot.Entry Comments index words.Words)
    ∷ Markup (codes "</span> ")
    ∷ []

-- the marks: stale, acknowledged by whom and why, in how many downtime entries, and whether its host is out
unfoldable pub marks_nodes : ObjectShape → List NodeView
marks_nodes row =
    (Markup (codes "<td class=\"cell\">") ∷ [])
    ++ nodes_if row.stale (Markup (codes "<span class=\"badge stale\">stale</span> ") ∷ [])
    ++ acknowledgement_nodes row.acknowledgement
    ++ reason_nodes row.reason
    ++ nodes_if (nat_lt 0 row.depth)
    (Markup (codes "<span class=\"badge\">downtime ") ∷ Number row.depth ∷ Markup (codes "</span> ") ∷ [])
    ++ nodes_if row.host_is_out (Markup (codes "<span class=\"badge\">host out</span>") ∷ [])
    ++ (Markup (codes "</td>") ∷ [])

-- how long before the moment of the page a moment was, which stands in the title of the cell that begins so
unfoldable pub ago_nodes : List ℕ → ℕ → ℕ → List NodeView
ago_nodes begin moment past =
    (Markup begin ∷ [])
    ++ moment_nodes past
    ++ (Markup (codes "\">") ∷ [])
    ++ span_nodes (moment - past)
    ++ (Markup (codes " ago</td>") ∷ [])

-- the same, where it may be longer
unfoldable pub over_nodes : List ℕ → ℕ → ℕ → List NodeView
over_nodes begin moment past =
    (Markup begin ∷ [])
    ++ moment_nodes past
    ++ (Markup (codes "\">over ") ∷ [])
    ++ span_nodes (moment - past)
    ++ (Markup (codes "</td>") ∷ [])

-- since when the object has its state, or at least has it
unfoldable pub since_nodes : ℕ → SinceWhen → List NodeView
since_nodes moment since =
    let begin = codes "<td class=\"num cell\" data-name=\"since\" title=\"" in
    if since.at_least then over_nodes begin moment since.moment else ago_nodes begin moment since.moment

-- the age of the last result
unfoldable pub age_nodes : ℕ → Option ℕ → List NodeView
age_nodes moment None = Markup (codes "<td class=\"num cell soft\">never</td>") ∷ []
age_nodes moment (Some last) = ago_nodes (codes "<td class=\"num cell\" title=\"") moment last

-- the output, its performance data apart
unfoldable pub output_nodes : ℕ → List NodeView
output_nodes index =
    Markup (codes "<td class=\"out\">")
    ∷ Text (slot.Object index text.Output)
    ∷ Markup (codes " <span class=\"soft perf\">")
    ∷ Text (slot.Object index text.Performance)
    ∷ Markup (codes "</span>")
    ∷ []

-- the row of the object of this index; with the gateway where the page shows several
unfoldable pub object_nodes : Bool → ℕ → ObjectShape → List NodeView
object_nodes several index row =
    (Markup (codes "<tr class=\"") ∷ Markup (choice_word (In row.state)) ∷ [])
    ++ nodes_if (not row.is_urgent) (Markup (codes " handled") ∷ [])
    ++ (Markup (codes "\"><td class=\"cell\"><span class=\"badge state\">")
    ∷ Markup (state_name row.state)
    ∷ Markup (codes "</span></td>")
    ∷ [])
    ++ object_name_nodes index row.is_host
    ++ marks_nodes row
    ++ since_nodes row.moment row.since
    ++ age_nodes row.moment row.last
    ++ output_nodes index
    ++ nodes_if several
    (Markup (codes "</td><td class=\"cell soft\" data-name=\"at\">") ∷ Text (slot.Object index text.Gateway) ∷ [])
    ++ (Markup (codes "</td></tr>\n") ∷ [])

-- whether two orders are one
unfoldable pub same_sort : Sort → Sort → Bool
same_sort Worst Worst = true
same_sort Host Host = true
same_sort Since Since = true
same_sort Last Last = true
same_sort one other = false

-- how the column of an order stands in it (WAI-ARIA 1.2, aria-sort)
abbrev pub direction : Sort → List ℕ
direction Worst = codes "descending"
direction Host = codes "ascending"
direction Since = codes "descending"
direction Last = codes "ascending"

-- the head of the column of an order: in a list in this order, that it is; in one of another, the link that asks for it; and
-- its name alone in a table that isn't the list
unfoldable pub column_nodes : Option Sort → Sort → List ℕ → List NodeView
column_nodes None sort name = Markup (codes "<th scope=\"col\">") ∷ Markup name ∷ Markup (codes "</th>") ∷ []
column_nodes (Some shown) sort name =
    if same_sort shown sort
    then Markup (codes "<th scope=\"col\" aria-sort=\"")
    ∷ Markup (direction sort)
    ∷ Markup (codes "\">")
    ∷ Markup name
    ∷ Markup (codes "</th>")
    ∷ []
    else Markup (codes "<th scope=\"col\"><a href=\"/?")
    ∷ Text (slot.Sorted sort)
    ∷ Markup (codes "\">")
    ∷ Markup name
    ∷ Markup (codes "</a></th>")
    ∷ []

-- the rest of a table of objects after its caption; of the list, with its order
unfoldable pub objects_table : Option Sort → Bool → List ObjectShape → List NodeView
objects_table sort several rows =
    (Markup (codes "<thead><tr>") ∷ [])
    ++ column_nodes sort Worst (codes "State")
    ++ column_nodes sort Host (codes "Object")
    ++ (Markup (codes "<th scope=\"col\">Marks</th>") ∷ [])
    ++ column_nodes sort Since (codes "Since")
    ++ column_nodes sort Last (codes "Last result")
    ++ (Markup (codes "<th scope=\"col\">Output</th>") ∷ [])
    ++ nodes_if several (Markup (codes "<th scope=\"col\">Gateway</th>") ∷ [])
    ++ (Markup (codes "</tr></thead><tbody>\n") ∷ [])
    ++ each_indexed (object_nodes several) rows
    ++ (Markup (codes "</tbody></table>\n") ∷ [])

-- the link to a page of this number of the list at a path; the page that is shown has none
unfoldable pub number_nodes : List ℕ → ℕ → ℕ → List NodeView
number_nodes path shown page =
    if page == shown
    then Markup (codes " <b aria-current=\"page\">") ∷ Number page ∷ Markup (codes "</b>") ∷ []
    else Markup (codes " <a href=\"") ∷ Markup path ∷ Markup (codes "?") ∷ Text (slot.Query page) ∷ Markup (codes "\">") ∷ Number page ∷ Markup (codes "</a>") ∷ []

-- the links to the pages of so many rows, 500 on each, from 1 to that of the last row
unfoldable pub numbers_nodes : List ℕ → ℕ → ℕ → List NodeView
numbers_nodes path shown count =
    (Markup (codes "<nav class=\"pages\" aria-label=\"Rows\">") ∷ Number count ∷ Markup (codes " selected, page") ∷ [])
    ++ flat_map (number_nodes path shown) (range_with_len 1 ((count - 1) / 500 + 1))
    ++ (Markup (codes "</nav>\n") ∷ [])

-- nothing where one page has them all
unfoldable pub pages_nodes : List ℕ → ℕ → ℕ → List NodeView
pages_nodes path shown count = nodes_if (nat_lt 500 count) (numbers_nodes path shown count)

-- the link to the same rows on a page where they can be marked, where there is one
unfoldable pub to_marks_nodes : Bool → ℕ → List NodeView
to_marks_nodes marks shown =
    nodes_if marks
    (Markup (codes " <a href=\"/marks?") ∷ Text (slot.Query shown) ∷ Markup (codes "\">Mark rows</a>") ∷ [])

-- the list, with how many objects it has, and how many there are
unfoldable pub objects_nodes : PageShapeView → List NodeView
objects_nodes shape =
    (Markup (codes "<table><caption><h2>Hosts and services</h2>")
    ∷ Number (length shape.objects)
    ∷ Markup (codes " of ")
    ∷ Number shape.all
    ∷ Markup (codes " shown")
    ∷ [])
    ++ to_marks_nodes shape.marks shape.page
    ++ (Markup (codes "</caption>\n") ∷ [])
    ++ objects_table (Some shape.sort) (nat_lt 1 (length shape.gateways)) shape.objects
    ++ pages_nodes (codes "/") shape.page shape.selected
