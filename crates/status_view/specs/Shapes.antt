-- What decides the markup of a page: `page_shape`. A shape has states, marks, moments, counts and ids, and no text.
use Rattle.std.specs.Prelude.{ℕ, Bool, true, false, not, ◌==◌, ◌&&◌, ◌||◌, nat_lt, if◌then◌else◌, List, map, filter, length, count_by, Option, Some, None, Ok, Err}
use Rattle.std.specs.List.{list_any, enumerate_from, last_or}
use Rattle.std.specs.Str.{bytes_eq}
use Rattle.gate_model.specs.declared.state.State.TheVariants.{Pending}
use Rattle.gate_model.specs.State.{is_same_state}
use Rattle.status_reading.specs.declared.rows.ShownSource.{ShownSource}
use Rattle.status_reading.specs.declared.rows.ShownSource.TheVariants.{User, Acknowledgement}
use Rattle.status_reading.specs.declared.rows.ShownSource.TheVariants as source
use Rattle.status_memory.specs.declared.alarm.Alarm.{Alarm}
use Rattle.status_merge.specs.declared.gateway.Gateway.{Gateway}
use Rattle.status_merge.specs.declared.gateway.MergedObject.{MergedObject}
use Rattle.status_merge.specs.declared.entries.CommentLine.{CommentLine}
use Rattle.status_merge.specs.declared.entries.DowntimeLine.{DowntimeLine}
use Rattle.status_merge.specs.declared.counts.Counts.{Counts}
use Rattle.status_merge.specs.declared.query.Choice.{Choice}
use Rattle.status_merge.specs.declared.query.Sort.{Sort}
use Rattle.status_merge.specs.declared.query.Query.{Query}
use Rattle.status_merge.specs.Asking.{Asked, asked_by}
use Rattle.status_merge.specs.Selecting.{filtered}
use Rattle.status_merge.specs.Ranks.{is_made, rank, counts_of}
use Rattle.status_view.specs.declared.shape.GatewayShape.{GatewayShape}
use Rattle.status_view.specs.declared.shape.ObjectShape.{ObjectShape}
use Rattle.status_view.specs.declared.shape.EntryMarks.{EntryMarks}
use Rattle.status_view.specs.declared.shape.EntryMarks.TheVariants.{Comment, Downtime}
use Rattle.status_view.specs.declared.shape.EntryShape.{EntryShape}
use Rattle.status_view.specs.declared.shape.AskedShape.{AskedShape}
use Rattle.status_view.specs.declared.shape.PageShape.{PageShape}
use Rattle.status_view.specs.declared.view.View.{View}

-- ---- shapes as plain values

-- a gateway's, with the alarms about it
pub record GatewayShapeView : Type 0 where
  pub moment : Option ℕ
  pub alarms : List Alarm

-- an entry's, with its id at each gateway that has it
pub record EntryShapeView : Type 0 where
  pub is_host : Bool
  pub marks : EntryMarks
  pub ids : List ℕ

-- a page's
pub record PageShapeView : Type 0 where
  pub choice : Choice
  pub texts : AskedShape
  pub acknowledged : Option Bool
  pub downtime : Option Bool
  pub sort : Sort
  pub page : ℕ
  pub selected : ℕ
  pub marks : Bool
  pub refresh : ℕ
  pub form : Bool
  pub all : ℕ
  pub counts : Counts
  pub pending : ℕ
  pub urgent : ℕ
  pub gateways : List GatewayShapeView
  pub objects : List ObjectShape
  pub comments : List EntryShapeView
  pub downtimes : List EntryShapeView

-- ---- the values of the program's shapes

abbrev pub gateway_shape_view : GatewayShape → GatewayShapeView
gateway_shape_view shape = record { moment = shape.moment; alarms = shape.alarms.items }

abbrev pub entry_shape_view : EntryShape → EntryShapeView
entry_shape_view shape = record { is_host = shape.is_host; marks = shape.marks; ids = shape.ids.items }

abbrev pub shape_view : PageShape → PageShapeView
shape_view shape = record {
  choice = shape.choice;
  texts = shape.texts;
  acknowledged = shape.acknowledged;
  downtime = shape.downtime;
  sort = shape.sort;
  page = shape.page;
  selected = shape.selected;
  marks = shape.marks;
  refresh = shape.refresh;
  form = shape.form;
  all = shape.all;
  counts = shape.counts;
  pending = shape.pending;
  urgent = shape.urgent;
  gateways = map gateway_shape_view shape.gateways.items;
  objects = shape.objects.items;
  comments = map entry_shape_view shape.comments.items;
  downtimes = map entry_shape_view shape.downtimes.items;
}

-- ---- the shape of what is shown

-- the moment of a gateway's page, where there is one
abbrev pub moment_of : Gateway → Option ℕ
moment_of gateway = elim gateway.page [ Ok page ↦ Some page.moment | Err cause ↦ None ]

-- the shape of a gateway's lines
abbrev pub gateway_shape : Gateway → GatewayShapeView
gateway_shape gateway = record { moment = moment_of gateway; alarms = gateway.alarms.items }

-- an unhandled problem, or a stale object that is no problem, needs attention: the ranks 0 to 4
abbrev pub is_urgent : MergedObject → Bool
is_urgent object = nat_lt (rank object) 5

-- whether a comment is that of an acknowledgement
abbrev pub is_reason : ShownSource → Bool
is_reason User = false
is_reason Acknowledgement = true
is_reason source.Downtime = false

-- whether it is that of an acknowledgement of the object, at the object's gateway
abbrev pub is_reason_of : MergedObject → CommentLine → Bool
is_reason_of object line =
    is_reason line.row.source
    && bytes_eq line.row.host.now object.row.host.now
    && bytes_eq line.row.service.now object.row.service.now
    && list_any (λ origin. bytes_eq origin.gateway.now object.gateway.now) line.origins.items

-- the place, among these comments, of the last one by which an object is acknowledged, where it is
abbrev pub reason_of : List CommentLine → MergedObject → Option ℕ
reason_of comments object =
    if is_made object.row.acknowledgement
    then last_or None
    (map (λ (item : ℕ × CommentLine). item.0)
    (filter (λ (item : ℕ × CommentLine). is_reason_of object item.1) (enumerate_from 0 comments)))
    else None

-- the shape of an object's row, where the page shows these comments
abbrev pub object_shape : List CommentLine → MergedObject → ObjectShape
object_shape comments object = record {
  is_host = length object.row.service.now == 0;
  state = object.row.state;
  last = object.row.last;
  stale = object.row.stale;
  acknowledgement = object.row.acknowledgement;
  reason = reason_of comments object;
  depth = object.row.depth;
  host_is_out = object.host_is_out;
  is_urgent = is_urgent object;
  moment = object.moment;
  since = object.since;
}

-- the shape of a comment's row
abbrev pub comment_shape : CommentLine → EntryShapeView
comment_shape line = record {
  is_host = length line.row.service.now == 0;
  marks = Comment (record {
    source = line.row.source;
    persistent = line.row.persistent;
    moment = line.row.moment;
  });
  ids = map (λ origin. origin.id) line.origins.items;
}

-- the shape of a downtime entry's row
abbrev pub downtime_shape : DowntimeLine → EntryShapeView
downtime_shape line = record {
  is_host = length line.row.service.now == 0;
  marks = Downtime (record {
    fixed = line.row.fixed;
    trigger = line.row.trigger;
    start = line.row.start;
    end = line.row.end;
    duration = line.row.duration;
    begin = line.row.begin;
    moment = line.moment;
  });
  ids = map (λ origin. origin.id) line.origins.items;
}

-- which texts are asked for
abbrev pub asked_shape : Asked → AskedShape
asked_shape asked = record {
  host = not (length asked.host == 0);
  hostname = not (length asked.hostname == 0);
  service = not (length asked.service == 0);
  output = not (length asked.output == 0);
  gateway = not (length asked.gateway == 0);
}

-- whether a page has the form: where it is asked for, or where the page isn't loaded again
abbrev pub has_form : Query → Bool
has_form query = query.form || (query.refresh == 0)

-- the objects that a query takes, whatever their states
abbrev pub counted : View → List MergedObject
counted view = filtered (asked_by view.query.now) view.all.now

-- the shape of a page: the counts are those of the objects that its query takes whatever their states, and the rows those of
-- its page
abbrev pub page_shape : View → PageShapeView
page_shape view = record {
  choice = view.query.now.choice;
  texts = asked_shape (asked_by view.query.now);
  acknowledged = view.query.now.acknowledged;
  downtime = view.query.now.downtime;
  sort = view.query.now.sort;
  page = view.query.now.page;
  selected = view.selected;
  marks = view.marks;
  refresh = view.query.now.refresh;
  form = has_form view.query.now;
  all = length view.all.now;
  counts = counts_of (counted view);
  pending = count_by (λ object. is_same_state object.row.state Pending) (counted view);
  urgent = count_by is_urgent view.all.now;
  gateways = map gateway_shape view.gateways.now;
  objects = map (object_shape view.comments.now) view.objects.now;
  comments = map comment_shape view.comments.now;
  downtimes = map downtime_shape view.downtimes.now;
}
