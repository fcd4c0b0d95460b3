-- For proofs and private functions alone: the lines of a page after the first, as rows of one type.
use Rattle.std.specs.Prelude.{◌≡◌, ℕ, ◌⊎◌, nat_lt, nat_le, Bool, true, false, ◌&&◌, List, [], ◌∷◌, ◌++◌, map, Option, Some, None, is_none, codes}
use Rattle.std.specs.Fmt.{decimal}
use Rattle.gate_grammar.specs.Spelling.{joined, holds}
use Rattle.status_reading.specs.declared.lines.Row.{Row}
use Rattle.status_reading.specs.declared.lines.Row.TheVariants as row
use Rattle.status_reading.specs.Rows.{ObjectView, CommentView, DowntimeView, PageView, object_view, comment_view, downtime_view}
use Rattle.status_reading.specs.Page.{object_fields, comment_fields, downtime_fields}
use Rattle.status_reading.specs.Readable.{Fits, IsReadableObject, IsReadableComment, IsReadableDowntime}

pub data RowView : Type 0 where
  Object : ObjectView → RowView
  Comment : CommentView → RowView
  Downtime : DowntimeView → RowView
  Closing : ℕ → RowView

abbrev pub row_view : Row → RowView
row_view (row.Object shown) = Object (object_view shown)
row_view (row.Comment shown) = Comment (comment_view shown)
row_view (row.Downtime shown) = Downtime (downtime_view shown)
row_view (row.Closing moment) = Closing moment

-- the fields of the line
abbrev pub row_fields : RowView → List (List ℕ)
row_fields (Object row) = object_fields row
row_fields (Comment row) = comment_fields row
row_fields (Downtime row) = downtime_fields row
row_fields (Closing moment) = decimal moment ∷ []

-- the first word of the line
abbrev pub row_word : RowView → List ℕ
row_word (Object row) = codes "object"
row_word (Comment row) = codes "comment"
row_word (Downtime row) = codes "downtime"
row_word (Closing moment) = codes "closing"

-- the line without its LF
abbrev pub content : RowView → List ℕ
content row = row_word row ++ joined (row_fields row)

abbrev pub row_line : RowView → List ℕ
row_line row = content row ++ 10 ∷ []

abbrev pub IsReadableRow : RowView → Type 0
IsReadableRow (Object row) = IsReadableObject row
IsReadableRow (Comment row) = IsReadableComment row
IsReadableRow (Downtime row) = IsReadableDowntime row
IsReadableRow (Closing moment) = Fits moment

-- the order of kinds of rows
abbrev pub rank : RowView → ℕ
rank (Object row) = 0
rank (Comment row) = 1
rank (Downtime row) = 2
rank (Closing moment) = 3

-- a row of the second rank may stand after one of the first
abbrev pub follows : ℕ → ℕ → Bool
follows before after = nat_lt before 3 && nat_le before after

abbrev pub closing_rows : Option ℕ → List RowView
closing_rows None = []
closing_rows (Some moment) = Closing moment ∷ []

-- the rows of a page, in their order
abbrev pub rows_of : PageView → List RowView
rows_of page =
    map Object page.objects ++ (map Comment page.comments ++ (map Downtime page.downtimes ++ closing_rows page.closing))

abbrev pub has_none : {A : Type 0} → List A → Bool
has_none [] = true
has_none (first ∷ rest) = false

-- a page may go on with this row
abbrev pub may_go_on : PageView → RowView → Bool
may_go_on page (Object row) = is_none page.closing && (has_none page.comments && has_none page.downtimes)
may_go_on page (Comment row) = is_none page.closing && has_none page.downtimes
may_go_on page (Downtime row) = is_none page.closing
may_go_on page (Closing moment) = is_none page.closing

-- a page and one more row
abbrev pub with_row : PageView → RowView → PageView
with_row page (Object row) = record page { objects = page.objects ++ row ∷ [] }
with_row page (Comment row) = record page { comments = page.comments ++ row ∷ [] }
with_row page (Downtime row) = record page { downtimes = page.downtimes ++ row ∷ [] }
with_row page (Closing moment) = record page { closing = Some moment }

-- the text has a line, and no row that the page may go on with is written so
pub record IsStopped (page : PageView) (text : List ℕ) : Type 0 where
  pub line : List ℕ
  pub rest : List ℕ
  pub whole : text ≡ line ++ 10 ∷ rest
  pub one_line : holds 10 line ≡ false
  pub none : (row : RowView) → IsReadableRow row → line ≡ content row → may_go_on page row ≡ false

-- the page can't go on with this text
abbrev pub IsEnded : PageView → List ℕ → Type 0
IsEnded page text = (holds 10 text ≡ false) ⊎ IsStopped page text
