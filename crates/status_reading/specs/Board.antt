-- What a gateway's board shows on its page: `shown_board`. A text is escaped; the log indexes and the places of the
-- board's rows are not shown.
use Rattle.std.specs.Prelude.{◌≡◌, ℕ, List, map, false, Option, Some, None, if◌then◌else◌}
use Rattle.std.specs.Option.{option_map}
use Rattle.std.specs.List.{AllByRecursion}
use Rattle.gate_model.specs.declared.record.Moment.{Moment}
use Rattle.gate_model.specs.declared.status.Acknowledgement.{Acknowledgement}
use Rattle.gate_model.specs.declared.comments.Source.{Source}
use Rattle.gate_model.specs.declared.comments.Source.TheVariants as kept
use Rattle.gate_grammar.specs.Spelling.{holds}
use Rattle.gate_lines.specs.declared.rows.ObjectRow.{ObjectRow}
use Rattle.gate_lines.specs.declared.rows.CommentRow.{CommentRow}
use Rattle.gate_lines.specs.declared.rows.DowntimeRow.{DowntimeRow}
use Rattle.gate_model.specs.Escaping.{escaped}
use Rattle.gate_lines.specs.Lines.{service_text, last_moment}
use Rattle.gate_pages.specs.StatusPage.{BoardView}
use Rattle.status_reading.specs.declared.rows.ShownAcknowledgement.{ShownAcknowledgement}
use Rattle.status_reading.specs.declared.rows.ShownAcknowledgement.TheVariants.{Missing, Normal, Sticky}
use Rattle.status_reading.specs.declared.rows.ShownSource.{ShownSource}
use Rattle.status_reading.specs.declared.rows.ShownSource.TheVariants as source
use Rattle.status_reading.specs.Rows.{ObjectView, CommentView, DowntimeView, PageView}
use Rattle.status_reading.specs.Readable.{Fits, MayFit}

-- ---- what is shown of a board's rows

-- an acknowledgement in force is sticky or normal
abbrev pub acknowledgement_shown : Option Acknowledgement → ShownAcknowledgement
acknowledgement_shown None = Missing
acknowledgement_shown (Some made) = if made.sticky then Sticky else Normal

-- where a comment comes from, without the id of a downtime entry
abbrev pub source_shown : Source → ShownSource
source_shown kept.User = source.User
source_shown kept.Ack = source.Acknowledgement
source_shown (kept.Downtime entry) = source.Downtime

-- an object's row
abbrev pub shown_object : ObjectRow → ObjectView
shown_object row = record {
  host = escaped row.host;
  service = service_text row.service;
  state = row.state;
  last = last_moment row.last;
  stale = row.stale;
  acknowledgement = acknowledgement_shown row.acknowledgement;
  depth = row.depth;
  output = escaped row.output;
}

-- a comment's row
abbrev pub shown_comment : CommentRow → CommentView
shown_comment row = record {
  id = row.comment.id;
  host = escaped row.host;
  service = service_text row.service;
  source = source_shown row.comment.source;
  persistent = row.comment.persistent;
  moment = row.moment.0;
  author = escaped row.author;
  text = escaped row.text;
}

-- a downtime entry's row
abbrev pub shown_downtime : DowntimeRow → DowntimeView
shown_downtime row = record {
  id = row.scheduled.id;
  host = escaped row.host;
  service = service_text row.service;
  fixed = row.scheduled.plan.fixed;
  trigger = row.scheduled.plan.trigger;
  start = row.scheduled.plan.starts.0;
  end = row.scheduled.plan.ends.0;
  duration = row.scheduled.plan.lasts;
  begin = row.begin;
  author = escaped row.author;
  text = escaped row.text;
}

-- the whole board
abbrev pub shown_board : BoardView → PageView
shown_board board = record {
  moment = board.moment.0;
  objects = map shown_object board.objects;
  comments = map shown_comment board.comments;
  downtimes = map shown_downtime board.downtimes;
  closing = option_map (λ (moment : Moment). moment.0) board.closing;
}

-- ---- the boards whose page can be read

-- the text holds no semicolon
abbrev pub HoldsNone : List ℕ → Type 0
HoldsNone text = holds 59 text ≡ false

-- no name, or one without a semicolon
abbrev pub MayHoldNone : Option (List ℕ) → Type 0
MayHoldNone None = Unit {0}
MayHoldNone (Some name) = HoldsNone name

-- an object whose names hold no semicolon, and whose numbers have 32 bits
pub record IsPlainObject (row : ObjectRow) : Type 0 where
  pub host : HoldsNone row.host
  pub service : MayHoldNone row.service
  pub last : MayFit (last_moment row.last)
  pub depth : Fits row.depth

-- the same of a comment, and of its author
pub record IsPlainComment (row : CommentRow) : Type 0 where
  pub id : Fits row.comment.id
  pub host : HoldsNone row.host
  pub service : MayHoldNone row.service
  pub moment : Fits row.moment.0
  pub author : HoldsNone row.author

-- the same of a downtime entry
pub record IsPlainDowntime (row : DowntimeRow) : Type 0 where
  pub id : Fits row.scheduled.id
  pub host : HoldsNone row.host
  pub service : MayHoldNone row.service
  pub trigger : Fits row.scheduled.plan.trigger
  pub start : Fits row.scheduled.plan.starts.0
  pub end : Fits row.scheduled.plan.ends.0
  pub duration : Fits row.scheduled.plan.lasts
  pub begin : MayFit row.begin
  pub author : HoldsNone row.author

-- a board whose names and authors hold no semicolon, and whose numbers have 32 bits
pub record IsPlainBoard (board : BoardView) : Type 0 where
  pub moment : Fits board.moment.0
  pub objects : AllByRecursion IsPlainObject board.objects
  pub comments : AllByRecursion IsPlainComment board.comments
  pub downtimes : AllByRecursion IsPlainDowntime board.downtimes
  pub closing : MayFit (option_map (λ (moment : Moment). moment.0) board.closing)
