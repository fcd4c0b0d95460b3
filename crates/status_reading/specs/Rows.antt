-- What a status page shows, as plain values: `PageView`. A text stands as on the page, with its escapes. Moments are in
-- seconds since 1970.
use Rattle.std.specs.Prelude.{ℕ, Bool, List, map, Option}
use Rattle.gate_model.specs.declared.state.State.{State}
use Rattle.status_reading.specs.declared.rows.ShownAcknowledgement.{ShownAcknowledgement}
use Rattle.status_reading.specs.declared.rows.ShownSource.{ShownSource}
use Rattle.status_reading.specs.declared.rows.ShownObject.{ShownObject}
use Rattle.status_reading.specs.declared.rows.ShownComment.{ShownComment}
use Rattle.status_reading.specs.declared.rows.ShownDowntime.{ShownDowntime}
use Rattle.status_reading.specs.declared.page.StatusPage.{StatusPage}

-- what a page shows of an object
pub record ObjectView : Type 0 where
  pub host : List ℕ
  pub service : List ℕ
  pub state : State
  pub last : Option ℕ
  pub stale : Bool
  pub acknowledgement : ShownAcknowledgement
  pub depth : ℕ
  pub output : List ℕ

-- what a page shows of a comment
pub record CommentView : Type 0 where
  pub id : ℕ
  pub host : List ℕ
  pub service : List ℕ
  pub source : ShownSource
  pub persistent : Bool
  pub moment : ℕ
  pub author : List ℕ
  pub text : List ℕ

-- what a page shows of a live downtime entry
pub record DowntimeView : Type 0 where
  pub id : ℕ
  pub host : List ℕ
  pub service : List ℕ
  pub fixed : Bool
  pub trigger : ℕ
  pub start : ℕ
  pub end : ℕ
  pub duration : ℕ
  pub begin : Option ℕ
  pub author : List ℕ
  pub text : List ℕ

-- what a page shows
pub record PageView : Type 0 where
  pub moment : ℕ
  pub objects : List ObjectView
  pub comments : List CommentView
  pub downtimes : List DowntimeView
  pub closing : Option ℕ

-- ---- the values of what was read

-- an object's
abbrev pub object_view : ShownObject → ObjectView
object_view row = record {
  host = row.host.now;
  service = row.service.now;
  state = row.state;
  last = row.last;
  stale = row.stale;
  acknowledgement = row.acknowledgement;
  depth = row.depth;
  output = row.output.now;
}

-- a comment's
abbrev pub comment_view : ShownComment → CommentView
comment_view row = record {
  id = row.id;
  host = row.host.now;
  service = row.service.now;
  source = row.source;
  persistent = row.persistent;
  moment = row.moment;
  author = row.author.now;
  text = row.text.now;
}

-- a downtime entry's
abbrev pub downtime_view : ShownDowntime → DowntimeView
downtime_view row = record {
  id = row.id;
  host = row.host.now;
  service = row.service.now;
  fixed = row.fixed;
  trigger = row.trigger;
  start = row.start;
  end = row.end;
  duration = row.duration;
  begin = row.begin;
  author = row.author.now;
  text = row.text.now;
}

-- a page's
abbrev pub page_view : StatusPage → PageView
page_view page = record {
  moment = page.moment;
  objects = map object_view page.objects.items;
  comments = map comment_view page.comments.items;
  downtimes = map downtime_view page.downtimes.items;
  closing = page.closing;
}
