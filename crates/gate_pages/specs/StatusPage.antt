-- The status page: the monitored objects, their comments and their downtime at one moment, a line each. The main
-- definitions are `board_at`, which facts a page shows, and `status_text`, how it shows them; `status_text_at` is both.
-- Own rules: the order of the lines.
use Rattle.std.specs.Prelude.{ℕ, List, ◌++◌, Option, None, Bool, codes}
use Rattle.std.specs.List.{flat_map}
use Rattle.std.specs.Fmt.{decimal}
use Rattle.gate_model.specs.declared.record.Moment.{Moment}
use Rattle.gate_model.specs.declared.record.Record.{Record}
use Rattle.gate_model.specs.declared.object.ObjectLine.{ObjectLine}
use Rattle.gate_lines.specs.declared.rows.ObjectRow.{ObjectRow}
use Rattle.gate_lines.specs.declared.rows.CommentRow.{CommentRow}
use Rattle.gate_lines.specs.declared.rows.DowntimeRow.{DowntimeRow}
use Rattle.gate_lines.specs.Lines.{object_line, comment_line, downtime_line, closing_line}
use Rattle.gate_pages.specs.Rows.{object_rows, comment_rows, downtime_rows}

-- what a status page shows: its moment, its rows, and the moment of the close where it is marked closing
pub record BoardView : Type 0 where
  pub moment : Moment
  pub objects : List ObjectRow
  pub comments : List CommentRow
  pub downtimes : List DowntimeRow
  pub closing : Option Moment

-- a board: what its page shows, and whether the page is kept
pub record BoardState : Type 0 where
  pub shown : BoardView
  pub has_page : Bool

-- what the page shows at this moment, of objects that were opened at a moment and have these records
abbrev pub board_at : List ObjectLine → Moment → List Record → Moment → BoardView
board_at table opening records moment = record {
  moment = moment;
  objects = object_rows table opening records moment;
  comments = comment_rows table records moment;
  downtimes = downtime_rows table records moment;
  closing = None;
}

-- the text of a status page that shows this
abbrev pub status_text : BoardView → List ℕ
status_text board =
    codes "status " ++ decimal board.moment.0 ++ codes "\n"
    ++ flat_map object_line board.objects
    ++ flat_map comment_line board.comments
    ++ flat_map downtime_line board.downtimes
    ++ closing_line board.closing

-- the status page at this moment, of objects that were opened at a moment and have these records
abbrev pub status_text_at : List ObjectLine → Moment → List Record → Moment → List ℕ
status_text_at table opening records moment = status_text (board_at table opening records moment)
