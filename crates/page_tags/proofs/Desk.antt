-- The pages with forms.
use Rattle.std.proofs.Common.{◌≡◌, ℕ, ◌-◌, ◌==◌, Bool, true, false, List, [], length, map, Option, Some, None, refl}
use Rattle.std.specs.Prelude.{codes, take, if◌then◌else◌}
use Rattle.std.specs.List.{list_any, enumerate_from}
use Rattle.gate_lines.specs.Lines.{state_name}
use Rattle.html_text.specs.Escaping.{is_markup}
use Rattle.status_reading.specs.declared.rows.ShownAcknowledgement.{ShownAcknowledgement}
use Rattle.status_reading.specs.declared.rows.ShownAcknowledgement.TheVariants.{Missing, Normal, Sticky}
use Rattle.status_reading.specs.Rows.{ObjectView, CommentView, DowntimeView, object_view, comment_view, downtime_view}
use Rattle.status_merge.specs.declared.query.Choice.TheVariants.{In}
use Rattle.status_merge.specs.Asking.{choice_word}
use Rattle.status_view.specs.Links.{object_link}
use Rattle.desk_view.specs.declared.forms.FormOf.{FormOf}
use Rattle.desk_view.specs.declared.page.ShownAt.{ShownAt}
use Rattle.desk_view.specs.declared.page.Note.{Note}
use Rattle.desk_view.specs.declared.page.DeskPage.{DeskPage}
use Rattle.desk_view.specs.declared.marks.MarksPage.{MarksPage}
use Rattle.desk_view.specs.Forms.{open_form, entry_fields}
use Rattle.desk_view.specs.Page.{stale_mark, acknowledgement_mark, named_parts, depth_parts, ago_parts, age_parts, output_parts, state_parts, said_parts, comment_parts, downtime_parts, state_row, comment_row, downtime_row, gateway_parts, again_part, note_opening, note_parts, head_parts, page_parts}
use Rattle.desk_view.specs.Marks.{box_parts, shown_parts, link_parts, mark_row, top_parts, form_parts, table_parts, marks_parts}
use Rattle.page_tags.specs.Tags.{InText, InDouble, HasOwnTags}
use Rattle.page_tags.proofs.Placing.{run, place_after, plain, joined, run_if, same, each, same_tags}
use Rattle.page_tags.proofs.Heads.{state_plain, choice_plain}

-- ---- markup of the program's own that depends on what is shown

stale : (is : Bool) → place_after InText (stale_mark is) ≡ InText
stale true = refl
stale false = refl

acknowledgement : (kind : ShownAcknowledgement) → place_after InText (acknowledgement_mark kind) ≡ InText
acknowledgement Missing = refl
acknowledgement Normal = refl
acknowledgement Sticky = refl

again : (is : Bool) → place_after InText (again_part is) ≡ InText
again true = refl
again false = refl

opening : (is : Bool) → place_after InText (note_opening is) ≡ InText
opening true = refl
opening false = refl

unless : (is : Bool) (bytes : List ℕ) → place_after InText bytes ≡ InText → place_after InText (if is then [] else bytes) ≡ InText
unless true bytes stays = refl
unless false bytes stays = stays

-- ---- the page of an object

named : (gateway : List ℕ) (row : ObjectView) → run InText (named_parts gateway row) ≡ Some InText
unfolding named_parts
named gateway row = simp (plain InText (state_name row.state) (state_plain row.state), stale row.stale, acknowledgement row.acknowledgement)

depth : (count : ℕ) → run InText (depth_parts count) ≡ Some InText
unfolding depth_parts
depth count = simp (run_if, same)

ago : (seconds : ℕ) → run InText (ago_parts seconds) ≡ Some InText
unfolding ago_parts
ago seconds = simp (run_if, same)

age : (moment : ℕ) (last : Option ℕ) → run InText (age_parts moment last) ≡ Some InText
unfolding age_parts
age moment None = refl
age moment (Some last) = simp (joined, ago (moment - last))

output : (text : List ℕ) → run InText (output_parts text) ≡ Some InText
unfolding output_parts
output text = refl

state : (gateway : List ℕ) (moment : ℕ) (row : ObjectView) → run InText (state_parts gateway moment row) ≡ Some InText
state gateway moment row = simp (joined, named gateway row, depth row.depth, age moment row.last, output row.output)

said : (author text : List ℕ) → run InText (said_parts author text) ≡ Some InText
unfolding said_parts
said author text = refl

opened : (of : FormOf) (action : List ℕ) → list_any is_markup action ≡ false → run InText (open_form of action) ≡ Some InText
unfolding open_form
opened of action is = simp (plain InDouble action is)

fields : (gateway : List ℕ) (id : ℕ) (button : List ℕ) → list_any is_markup button ≡ false → run InText (entry_fields gateway id button) ≡ Some InText
unfolding entry_fields
fields gateway id button is = simp (plain InText button is)

comment : (of : FormOf) (gateway : List ℕ) (row : CommentView) → run InText (comment_parts of gateway row) ≡ Some InText
comment of gateway row = simp (joined, said row.author row.text, opened of (codes "uncomment") refl, fields gateway row.id (codes "Delete comment") refl)

downtime : (of : FormOf) (gateway : List ℕ) (row : DowntimeView) → run InText (downtime_parts of gateway row) ≡ Some InText
downtime of gateway row = simp (joined, said row.author row.text, opened of (codes "cancel") refl, fields gateway row.id (codes "Cancel downtime") refl)

shown_state : (of : FormOf) (gateway : List ℕ) (moment : ℕ) (row : ObjectView) → run InText (state_row of gateway moment row) ≡ Some InText
unfolding state_row
shown_state of gateway moment row = simp (run_if, same, state gateway moment row)

shown_comment : (of : FormOf) (gateway : List ℕ) (row : CommentView) → run InText (comment_row of gateway row) ≡ Some InText
unfolding comment_row
shown_comment of gateway row = simp (run_if, same, comment of gateway row)

shown_downtime : (of : FormOf) (gateway : List ℕ) (row : DowntimeView) → run InText (downtime_row of gateway row) ≡ Some InText
unfolding downtime_row
shown_downtime of gateway row = simp (run_if, same, downtime of gateway row)

gateway : (of : FormOf) (shown : ShownAt) → run InText (gateway_parts of shown) ≡ Some InText
gateway of shown =
    simp (
      joined,
      each (state_row of shown.name.now shown.page.now.moment) InText (shown_state of shown.name.now shown.page.now.moment) (map object_view shown.page.now.objects.items),
      each (comment_row of shown.name.now) InText (shown_comment of shown.name.now) (map comment_view shown.page.now.comments.items),
      each (downtime_row of shown.name.now) InText (shown_downtime of shown.name.now) (map downtime_view shown.page.now.downtimes.items),
    )

note : (one : Note) → run InText (note_parts one) ≡ Some InText
unfolding note_parts
note one = simp (opening one.is_alarm, unless (length one.gateway.now == 0) (codes ": ") refl)

head : (page : DeskPage) → run InText (head_parts page) ≡ Some InText
unfolding head_parts
head page = simp (again page.again)

object_page : (page : DeskPage) → run InText (page_parts page) ≡ Some InText
object_page page =
    simp (
      joined,
      head page,
      each note_parts InText note page.notes.now,
      each (gateway_parts page.of) InText (gateway page.of) page.gateways.now,
      opened page.of (codes "acknowledge") refl,
      opened page.of (codes "unacknowledge") refl,
      opened page.of (codes "comment") refl,
      opened page.of (codes "downtime") refl,
      opened page.of (codes "passive") refl,
    )

pub desk_tags : (page : DeskPage) → HasOwnTags (page_parts page)
desk_tags page = same_tags InText InText (page_parts page) (object_page page)

-- ---- the page of many objects

box : (index : ℕ) (row : ObjectView) → run InText (box_parts index row) ≡ Some InText
unfolding box_parts
box index row =
    simp (plain InDouble (choice_word (In row.state)) (choice_plain (In row.state)), unless (length row.service == 0) (codes " <span class=\"soft\">/</span> ") refl)

shown : (row : ObjectView) → run InText (shown_parts row) ≡ Some InText
unfolding shown_parts
shown row =
    simp (
      plain InText (state_name row.state) (state_plain row.state),
      stale row.stale,
      acknowledgement row.acknowledgement,
      unless (row.depth == 0) (codes " <span class=\"badge\">in downtime</span>") refl,
    )

link : (to : List ℕ) → run InText (link_parts to) ≡ Some InText
unfolding link_parts
link to = refl

row_of : (item : ℕ × ObjectView) → run InText (mark_row item) ≡ Some InText
row_of item = simp (joined, box item.0 item.1, shown item.1, link (object_link item.1.host item.1.service))

top : (page : MarksPage) → run InText (top_parts page) ≡ Some InText
unfolding top_parts
top page = simp (again page.again)

begun : (page : MarksPage) → run InText (form_parts page) ≡ Some InText
unfolding form_parts
begun page = refl

table : (some all : ℕ) → run InText (table_parts some all) ≡ Some InText
unfolding table_parts
table some all = refl

marks_page : (page : MarksPage) → run InText (marks_parts page) ≡ Some InText
marks_page page =
    simp (
      joined,
      top page,
      each note_parts InText note page.notes.now,
      begun page,
      table (length (take 256 page.rows.now)) (length page.rows.now),
      each mark_row InText row_of (enumerate_from 0 (map object_view (take 256 page.rows.now))),
    )

pub marks_tags : (page : MarksPage) → HasOwnTags (marks_parts page)
marks_tags page = same_tags InText InText (marks_parts page) (marks_page page)
