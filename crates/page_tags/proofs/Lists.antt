-- The lists of a page, the page of an object, that of changes, and the feed.
use Rattle.std.proofs.Common.{◌≡◌, ℕ, ◌+◌, ◌-◌, ◌/◌, Bool, true, false, not, List, [], ◌∷◌, length, Option, Some, None, refl}
use Rattle.std.specs.Prelude.{nat_lt, codes}
use Rattle.std.specs.List.{list_any, enumerate_from, range_with_len}
use Rattle.gate_model.specs.declared.state.State.{State}
use Rattle.gate_lines.specs.Lines.{state_name, plan_name}
use Rattle.html_text.specs.Escaping.{is_markup}
use Rattle.status_reading.specs.declared.rows.ShownAcknowledgement.{ShownAcknowledgement}
use Rattle.status_reading.specs.declared.rows.ShownAcknowledgement.TheVariants.{Missing, Normal, Sticky}
use Rattle.status_reading.specs.declared.rows.ShownSource.{ShownSource}
use Rattle.status_reading.specs.declared.rows.ShownSource.TheVariants as source
use Rattle.status_reading.specs.Page.{shown_source}
use Rattle.status_merge.specs.declared.query.Choice.TheVariants.{In}
use Rattle.status_merge.specs.declared.query.Sort.{Sort}
use Rattle.status_merge.specs.declared.query.Sort.TheVariants.{Worst, Host, Since, Last}
use Rattle.status_merge.specs.Asking.{choice_word}
use Rattle.status_view.specs.declared.layout.EntryList.{EntryList}
use Rattle.status_view.specs.declared.layout.EntryList.TheVariants.{Comments, Downtimes}
use Rattle.status_view.specs.declared.shape.ObjectShape.{ObjectShape}
use Rattle.status_view.specs.declared.shape.CommentMarks.{CommentMarks}
use Rattle.status_view.specs.declared.shape.DowntimeMarks.{DowntimeMarks}
use Rattle.status_view.specs.declared.shape.EntryMarks.{EntryMarks}
use Rattle.status_view.specs.declared.shape.EntryMarks.TheVariants.{Comment, Downtime}
use Rattle.status_view.specs.declared.changes.ChangeShape.{ChangeShape}
use Rattle.status_view.specs.declared.layout.Slot.TheVariants.{Change}
use Rattle.status_view.specs.declared.layout.ChangeText.TheVariants as change_text
use Rattle.status_memory.specs.declared.history.Since.{Since as SinceWhen}
use Rattle.status_view.specs.declared.view.View.{View}
use Rattle.status_view.specs.Filling.{filled}
use Rattle.status_view.specs.Layout.{Markup, Text, nodes_if}
use Rattle.status_view.specs.Shapes.{GatewayShapeView, EntryShapeView, PageShapeView}
use Rattle.status_view.specs.ObjectsLayout.{object_name_nodes, acknowledgement_nodes, reason_nodes, marks_nodes, ago_nodes, over_nodes, since_nodes, age_nodes, output_nodes, object_nodes, direction, column_nodes, objects_table, number_nodes, numbers_nodes, pages_nodes, to_marks_nodes, objects_nodes}
use Rattle.status_view.specs.ListsLayout.{comment_nodes, duration_nodes, window_nodes, began_nodes, entry_marks_nodes, entry_name_nodes, words_nodes, origin_nodes, entry_nodes, list_title, extent_nodes, list_columns, entries_table, entries_nodes}
use Rattle.status_view.specs.EntriesPage.{list_path, none_nodes, rows_in, all_nodes, entries_page_nodes}
use Rattle.status_view.specs.ListsLayout as lists
use Rattle.status_view.specs.Page.{seconds_of, head_nodes, end_nodes, page_nodes}
use Rattle.status_view.specs.ChangesLayout.{from_name, change_nodes, changes_table, changes_nodes, feed_id_nodes, feed_title_nodes, feed_entry_nodes, updated_at, feed_nodes}
use Rattle.status_view.specs.OneObject.{name_nodes, rows_nodes, object_head_nodes, object_page_nodes}
use Rattle.page_tags.specs.Tags.{InText, InDouble, HasOwnTags}
use Rattle.page_tags.proofs.Placing.{run, place_after, plain, joined, run_if, same, each, own_tags}
use Rattle.page_tags.proofs.Times.{span, instant, time}
use Rattle.page_tags.proofs.Heads.{state_plain, choice_plain, document, title, alarms, summary, filter_part}

-- ---- objects

object_name : (index : ℕ) (is_host : Bool) → run InText (object_name_nodes index is_host) ≡ Some InText
unfolding object_name_nodes
object_name index true = refl
object_name index false = refl

acknowledgement : (kind : ShownAcknowledgement) → run InText (acknowledgement_nodes kind) ≡ Some InText
unfolding acknowledgement_nodes
acknowledgement Missing = refl
acknowledgement Normal = refl
acknowledgement Sticky = refl

reason : (place : Option ℕ) → run InText (reason_nodes place) ≡ Some InText
unfolding reason_nodes
reason None = refl
reason (Some index) = refl

marks : (row : ObjectShape) → run InText (marks_nodes row) ≡ Some InText
unfolding marks_nodes
marks row = simp (joined, run_if, same, acknowledgement row.acknowledgement, reason row.reason)

ago : (begin : List ℕ) (moment past : ℕ) → place_after InText begin ≡ InDouble → run InText (ago_nodes begin moment past) ≡ Some InText
unfolding ago_nodes
ago begin moment past is = simp (joined, is, instant InDouble (codes " ") past refl, span InText (moment - past))

over : (begin : List ℕ) (moment past : ℕ) → place_after InText begin ≡ InDouble → run InText (over_nodes begin moment past) ≡ Some InText
unfolding over_nodes
over begin moment past is = simp (joined, is, instant InDouble (codes " ") past refl, span InText (moment - past))

since_as : (moment past : ℕ) (at_least is_held : Bool)
    → run InText (since_nodes moment (record { moment = past; at_least = at_least; is_held = is_held })) ≡ Some InText
unfolding since_nodes
since_as moment past true is_held = over (codes "<td class=\"num cell\" data-name=\"since\" title=\"") moment past refl
since_as moment past false is_held = ago (codes "<td class=\"num cell\" data-name=\"since\" title=\"") moment past refl

since : (moment : ℕ) (past : SinceWhen) → run InText (since_nodes moment past) ≡ Some InText
since moment past = since_as moment past.moment past.at_least past.is_held

age : (moment : ℕ) (last : Option ℕ) → run InText (age_nodes moment last) ≡ Some InText
unfolding age_nodes
age moment None = refl
age moment (Some last) = ago (codes "<td class=\"num cell\" title=\"") moment last refl

output : (index : ℕ) → run InText (output_nodes index) ≡ Some InText
unfolding output_nodes
output index = refl

object : (several : Bool) (index : ℕ) (row : ObjectShape) → run InText (object_nodes several index row) ≡ Some InText
unfolding object_nodes
object several index row = simp (joined, run_if, same, object_name index row.is_host, marks row, since row.moment row.since, age row.moment row.last, output index, plain InDouble (choice_word (In row.state)) (choice_plain (In row.state)), plain InText (state_name row.state) (state_plain row.state))

direction_plain : (sort : Sort) → list_any is_markup (direction sort) ≡ false
direction_plain Worst = refl
direction_plain Host = refl
direction_plain Since = refl
direction_plain Last = refl

column : (shown : Option Sort) (sort : Sort) (name : List ℕ) → list_any is_markup name ≡ false → run InText (column_nodes shown sort name) ≡ Some InText
unfolding column_nodes
column None sort name is = simp (plain InText name is)
column (Some shown) sort name is = simp (run_if, same, plain InText name is, plain InDouble (direction sort) (direction_plain sort))

table : (sort : Option Sort) (several : Bool) (rows : List ObjectShape) → run InText (objects_table sort several rows) ≡ Some InText
unfolding objects_table
table sort several rows = simp (joined, run_if, same, column sort Worst (codes "State") refl, column sort Host (codes "Object") refl, column sort Since (codes "Since") refl, column sort Last (codes "Last result") refl, each (λ item. object_nodes several item.0 item.1) InText (λ item. object several item.0 item.1) (enumerate_from 0 rows))

number : (path : List ℕ) (shown page : ℕ) → list_any is_markup path ≡ false → run InText (number_nodes path shown page) ≡ Some InText
unfolding number_nodes
number path shown page is = simp (run_if, same, plain InDouble path is)

numbers : (path : List ℕ) (shown count : ℕ) → list_any is_markup path ≡ false → run InText (numbers_nodes path shown count) ≡ Some InText
unfolding numbers_nodes
numbers path shown count is = simp (joined, each (number_nodes path shown) InText (λ page. number path shown page is) (range_with_len 1 ((count - 1) / 500 + 1)))

pages : (path : List ℕ) (shown count : ℕ) → list_any is_markup path ≡ false → run InText (pages_nodes path shown count) ≡ Some InText
unfolding pages_nodes
pages path shown count is = simp (run_if, same, numbers path shown count is)

to_marks : (is : Bool) (shown : ℕ) → run InText (to_marks_nodes is shown) ≡ Some InText
unfolding to_marks_nodes
to_marks true shown = refl
to_marks false shown = refl

objects : (shape : PageShapeView) → run InText (objects_nodes shape) ≡ Some InText
unfolding objects_nodes
objects shape =
    simp (joined, to_marks shape.marks shape.page, table (Some shape.sort) (nat_lt 1 (length shape.gateways)) shape.objects, pages (codes "/") shape.page shape.selected refl)

-- ---- comments and downtime entries

source_plain : (from : ShownSource) → list_any is_markup (shown_source from) ≡ false
source_plain source.User = refl
source_plain source.Acknowledgement = refl
source_plain source.Downtime = refl

plan_plain : (fixed : Bool) → list_any is_markup (plan_name fixed) ≡ false
plan_plain true = refl
plan_plain false = refl

comment : (row : CommentMarks) → run InText (comment_nodes row) ≡ Some InText
unfolding comment_nodes
comment row = simp (joined, run_if, same, plain InText (shown_source row.source) (source_plain row.source), time row.moment)

duration : (seconds : ℕ) → run InText (duration_nodes seconds) ≡ Some InText
unfolding duration_nodes
duration seconds = span InText seconds

window : (row : DowntimeMarks) → run InText (window_nodes row) ≡ Some InText
unfolding window_nodes
window row = simp (joined, run_if, same, time row.start, time row.end, plain InText (plan_name row.fixed) (plan_plain row.fixed), duration row.duration)

began_ago : (moment begin : ℕ) → run InText (lists.ago_nodes moment begin) ≡ Some InText
unfolding lists.ago_nodes
began_ago moment begin = simp (joined, span InText (moment - begin))

began : (moment : ℕ) (begin : Option ℕ) → run InText (began_nodes moment begin) ≡ Some InText
unfolding began_nodes
began moment None = refl
began moment (Some begin) = began_ago moment begin

entry_marks : (row : EntryMarks) → run InText (entry_marks_nodes row) ≡ Some InText
unfolding entry_marks_nodes
entry_marks (Comment row) = comment row
entry_marks (Downtime row) = simp (joined, window row, began row.moment row.begin)

entry_name : (list : EntryList) (index : ℕ) (is_host : Bool) → run InText (entry_name_nodes list index is_host) ≡ Some InText
unfolding entry_name_nodes
entry_name list index true = refl
entry_name list index false = refl

words : (list : EntryList) (index : ℕ) → run InText (words_nodes list index) ≡ Some InText
unfolding words_nodes
words list index = refl

origin : (list : EntryList) (index gateway id : ℕ) → run InText (origin_nodes list index gateway id) ≡ Some InText
unfolding origin_nodes
origin list index gateway id = simp (joined, run_if, same)

entry : (list : EntryList) (index : ℕ) (row : EntryShapeView) → run InText (entry_nodes list index row) ≡ Some InText
unfolding entry_nodes
entry list index row = simp (joined, entry_name list index row.is_host, entry_marks row.marks, words list index, each (λ item. origin_nodes list index item.0 item.1) InText (λ item. origin list index item.0 item.1) (enumerate_from 0 row.ids))

title_of : (list : EntryList) → run InText (list_title list) ≡ Some InText
unfolding list_title
title_of Comments = refl
title_of Downtimes = refl

extent : (all : Option ℕ) (shown : ℕ) → run InText (extent_nodes all shown) ≡ Some InText
unfolding extent_nodes
extent None shown = refl
extent (Some all) shown = refl

columns_of : (list : EntryList) → run InText (list_columns list) ≡ Some InText
unfolding list_columns
columns_of Comments = refl
columns_of Downtimes = refl

entries : (list : EntryList) (all : Option ℕ) (rows : List EntryShapeView) → run InText (entries_table list all rows) ≡ Some InText
unfolding entries_table
entries list all rows = simp (joined, title_of list, extent all (length rows), columns_of list, each (λ item. entry_nodes list item.0 item.1) InText (λ item. entry list item.0 item.1) (enumerate_from 0 rows))

list_of : (list : EntryList) (rows : List EntryShapeView) → run InText (entries_nodes list rows) ≡ Some InText
unfolding entries_nodes
list_of list rows = simp (run_if, same, entries list None rows)

-- ---- the page of states

end : run InText end_nodes ≡ Some InText
unfolding end_nodes
end = refl

head : (shape : PageShapeView) → run InText (head_nodes shape) ≡ Some InText
unfolding head_nodes
head shape = simp (joined, document (seconds_of shape) shape.urgent, title shape.gateways, alarms shape.gateways, summary shape, filter_part shape)

page : (shape : PageShapeView) → run InText (page_nodes shape) ≡ Some InText
unfolding page_nodes
page shape = simp (joined, head shape, objects shape, list_of Comments shape.comments, list_of Downtimes shape.downtimes, end)

pub page_tags : (view : View) (shape : PageShapeView) → HasOwnTags (filled view (page_nodes shape))
page_tags view shape = own_tags (page_nodes shape) (page shape) view

-- ---- the pages of comments and of downtime entries

path_plain : (list : EntryList) → list_any is_markup (list_path list) ≡ false
path_plain Comments = refl
path_plain Downtimes = refl

none_of : (list : EntryList) → run InText (none_nodes list) ≡ Some InText
unfolding none_nodes
none_of Comments = refl
none_of Downtimes = refl

all_of : (list : EntryList) (shape : PageShapeView) → run InText (all_nodes list shape) ≡ Some InText
unfolding all_nodes
all_of list shape =
    simp (
      joined,
      run_if,
      same,
      none_of list,
      entries list (Some shape.selected) (rows_in list shape),
      pages (list_path list) shape.page shape.selected (path_plain list),
    )

entries_page : (list : EntryList) (shape : PageShapeView) → run InText (entries_page_nodes list shape) ≡ Some InText
unfolding entries_page_nodes
entries_page list shape = simp (joined, document shape.refresh 0, title shape.gateways, alarms shape.gateways, all_of list shape, end)

pub entries_tags : (view : View) (list : EntryList) (shape : PageShapeView) → HasOwnTags (filled view (entries_page_nodes list shape))
entries_tags view list shape = own_tags (entries_page_nodes list shape) (entries_page list shape) view

-- ---- changes

from_plain : (from : Option State) → list_any is_markup (from_name from) ≡ false
from_plain None = refl
from_plain (Some state) = state_plain state

change : (index : ℕ) (row : ChangeShape) → run InText (change_nodes index row) ≡ Some InText
unfolding change_nodes
change index row = simp (joined, run_if, same, time row.moment, plain InDouble (choice_word (In row.to)) (choice_plain (In row.to)), plain InText (from_name row.from) (from_plain row.from), plain InText (state_name row.to) (state_plain row.to))

changed : (rows : List ChangeShape) → run InText (changes_table rows) ≡ Some InText
unfolding changes_table
changed rows = simp (joined, each (λ item. change_nodes item.0 item.1) InText (λ item. change item.0 item.1) (enumerate_from 0 rows))

changes : (refresh : ℕ) (gateways : List GatewayShapeView) (rows : List ChangeShape)
    → run InText (changes_nodes refresh gateways rows) ≡ Some InText
unfolding changes_nodes
changes refresh gateways rows = simp (joined, document refresh 0, title gateways, alarms gateways, changed rows)

pub changes_tags : (view : View) (refresh : ℕ) (gateways : List GatewayShapeView) (rows : List ChangeShape)
    → HasOwnTags (filled view (changes_nodes refresh gateways rows))
changes_tags view refresh gateways rows =
    own_tags (changes_nodes refresh gateways rows) (changes refresh gateways rows) view

-- ---- the feed

feed_id : (index : ℕ) (row : ChangeShape) → run InText (feed_id_nodes index row) ≡ Some InText
unfolding feed_id_nodes
feed_id index row = simp (plain InText (from_name row.from) (from_plain row.from), plain InText (state_name row.to) (state_plain row.to))

service_title : (index : ℕ) (is_host : Bool) → run InText (nodes_if (not is_host) (Markup (codes " / ") ∷ Text (Change index change_text.Service) ∷ [])) ≡ Some InText
service_title index true = refl
service_title index false = refl

feed_title : (index : ℕ) (row : ChangeShape) → run InText (feed_title_nodes index row) ≡ Some InText
unfolding feed_title_nodes
feed_title index row =
    simp (joined, service_title index row.is_host, plain InText (from_name row.from) (from_plain row.from), plain InText (state_name row.to) (state_plain row.to))

feed_entry : (index : ℕ) (row : ChangeShape) → run InText (feed_entry_nodes index row) ≡ Some InText
unfolding feed_entry_nodes
feed_entry index row = simp (joined, feed_id index row, feed_title index row, instant InText (codes "T") row.moment refl)

feed : (clock : ℕ) (rows : List ChangeShape) → run InText (feed_nodes clock rows) ≡ Some InText
unfolding feed_nodes
feed clock rows = simp (joined, instant InText (codes "T") (updated_at clock rows) refl, each (λ item. feed_entry_nodes item.0 item.1) InText (λ item. feed_entry item.0 item.1) (enumerate_from 0 rows))

pub feed_tags : (view : View) (clock : ℕ) (rows : List ChangeShape) → HasOwnTags (filled view (feed_nodes clock rows))
feed_tags view clock rows = own_tags (feed_nodes clock rows) (feed clock rows) view

-- ---- the page of an object

named : (is_host : Bool) → run InText (name_nodes is_host) ≡ Some InText
unfolding name_nodes
named true = refl
named false = refl

rows_of : (rows : List ObjectShape) → run InText (rows_nodes rows) ≡ Some InText
unfolding rows_nodes
rows_of [] = refl
rows_of (row ∷ rows) = simp (joined, named row.is_host, table None true (row ∷ rows))

object_head : (shape : PageShapeView) → run InText (object_head_nodes shape) ≡ Some InText
unfolding object_head_nodes
object_head shape = simp (joined, document shape.refresh 0, title shape.gateways, alarms shape.gateways, rows_of shape.objects)

object_page : (shape : PageShapeView) (rows : List ChangeShape) → run InText (object_page_nodes shape rows) ≡ Some InText
unfolding object_page_nodes
object_page shape rows = simp (joined, object_head shape, list_of Comments shape.comments, list_of Downtimes shape.downtimes, changed rows, end)

pub object_tags : (view : View) (shape : PageShapeView) (rows : List ChangeShape) → HasOwnTags (filled view (object_page_nodes shape rows))
object_tags view shape rows = own_tags (object_page_nodes shape rows) (object_page shape rows) view
