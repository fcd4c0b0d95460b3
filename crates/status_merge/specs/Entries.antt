-- Comments and downtime entries of several gateways' pages: those that differ in id and gateway alone are one line.
-- `comment_lines` and `downtime_lines` are the main definitions. Own rules.
use Rattle.std.specs.Prelude.{ℕ, Bool, nat_eq, ◌==◌, ◌&&◌, List, [], map, filter, Ok, Err}
use Rattle.std.specs.Borrow.{Bor}
use Rattle.std.specs.Bool.{beq}
use Rattle.std.specs.List.{flat_map, list_any}
use Rattle.std.specs.Option.{option_eq}
use Rattle.std.specs.Str.{bytes_eq}
use Rattle.status_reading.specs.declared.rows.ShownComment.{ShownComment}
use Rattle.status_reading.specs.declared.rows.ShownDowntime.{ShownDowntime}
use Rattle.status_reading.specs.declared.rows.ShownSource.{ShownSource}
use Rattle.status_reading.specs.declared.rows.ShownSource.TheVariants.{User, Acknowledgement, Downtime}
use Rattle.status_merge.specs.declared.gateway.Gateway.{Gateway}
use Rattle.status_merge.specs.declared.gateway.MergedObject.{MergedObject}
use Rattle.status_merge.specs.declared.entries.Origin.{Origin}
use Rattle.status_merge.specs.declared.entries.CommentLine.{CommentLine}
use Rattle.status_merge.specs.declared.entries.DowntimeLine.{DowntimeLine}
use Rattle.status_merge.specs.declared.entries.Entry.{Entry}
use Rattle.status_merge.specs.Groups.{groups}
use Rattle.status_merge.specs.Asking.{Asked}
use Rattle.status_merge.specs.Selecting.{has_host}

-- a number for each source
abbrev pub source_number : ShownSource → ℕ
source_number User = 0
source_number Acknowledgement = 1
source_number Downtime = 2

-- whether two comments differ in id, gateway and their pages' moments alone
abbrev pub same_comment : Entry ShownComment → Entry ShownComment → Bool
same_comment one other =
    bytes_eq one.row.host.now other.row.host.now
    && (bytes_eq one.row.service.now other.row.service.now
    && ((source_number one.row.source == source_number other.row.source)
    && (beq one.row.persistent other.row.persistent
    && ((one.row.moment == other.row.moment)
    && (bytes_eq one.row.author.now other.row.author.now
    && bytes_eq one.row.text.now other.row.text.now)))))

-- the same of two downtime entries
abbrev pub same_downtime : Entry ShownDowntime → Entry ShownDowntime → Bool
same_downtime one other =
    bytes_eq one.row.host.now other.row.host.now
    && (bytes_eq one.row.service.now other.row.service.now
    && (beq one.row.fixed other.row.fixed
    && ((one.row.trigger == other.row.trigger)
    && ((one.row.start == other.row.start)
    && ((one.row.end == other.row.end)
    && ((one.row.duration == other.row.duration)
    && (option_eq nat_eq one.row.begin other.row.begin
    && (bytes_eq one.row.author.now other.row.author.now
    && bytes_eq one.row.text.now other.row.text.now))))))))

-- a comment of a page, with its gateway's name and the page's moment
abbrev pub comment_by : Bor (List ℕ) → ℕ → ShownComment → Entry ShownComment
comment_by gateway moment row = record {
  origin = record { gateway = gateway; id = row.id };
  moment = moment;
  row = row;
}

abbrev pub downtime_by : Bor (List ℕ) → ℕ → ShownDowntime → Entry ShownDowntime
downtime_by gateway moment row = record {
  origin = record { gateway = gateway; id = row.id };
  moment = moment;
  row = row;
}

-- the comments of a gateway's page on the hosts that are asked for, in its order; none where there is no page
abbrev pub comments_on : Asked → Gateway → List (Entry ShownComment)
comments_on asked gateway = elim gateway.page [
  | Ok page ↦ map (comment_by gateway.name page.moment) (filter (λ row. has_host asked row.host.now) page.comments.items)
  | Err fault ↦ []
]

-- the same of its downtime entries
abbrev pub downtimes_on : Asked → Gateway → List (Entry ShownDowntime)
downtimes_on asked gateway = elim gateway.page [
  | Ok page ↦
      map (downtime_by gateway.name page.moment)
      (filter (λ row. has_host asked row.host.now) page.downtimes.items)
  | Err fault ↦ []
]

-- where a row stands
abbrev pub origin_of : {R : Type 0} → Entry R → Origin
origin_of entry = entry.origin

-- a line's row and origins
abbrev pub comment_view : CommentLine → ShownComment × List Origin
comment_view line = (line.row, line.origins.items)

-- a line's moment, row and origins
abbrev pub downtime_view : DowntimeLine → ℕ × ShownDowntime × List Origin
downtime_view line = (line.moment, line.row, line.origins.items)

-- the line of comments that are the same: the first of them, and the origins of all
abbrev pub comment_line : Entry ShownComment × List (Entry ShownComment) → ShownComment × List Origin
comment_line group = (group.0.row, map origin_of group.1)

-- the same of downtime entries, with the moment of the first one's page
abbrev pub downtime_line : Entry ShownDowntime × List (Entry ShownDowntime) → ℕ × ShownDowntime × List Origin
downtime_line group = (group.0.moment, group.0.row, map origin_of group.1)

-- whether one of these objects has these names
abbrev pub is_among : List MergedObject → List ℕ → List ℕ → Bool
is_among objects host service =
    list_any (λ object. bytes_eq object.row.host.now host && bytes_eq object.row.service.now service) objects

-- whether a line is that of a comment on one of these objects, or of a downtime entry of one
abbrev pub is_comment_among : List MergedObject → ShownComment × List Origin → Bool
is_comment_among objects line = is_among objects line.0.host.now line.0.service.now

abbrev pub is_downtime_among : List MergedObject → ℕ × ShownDowntime × List Origin → Bool
is_downtime_among objects line = is_among objects line.1.host.now line.1.service.now

-- the lines of the comments on the hosts that are asked for, in the order of their first rows
abbrev pub comment_lines : Asked → List Gateway → List (ShownComment × List Origin)
comment_lines asked gateways = map comment_line (groups same_comment (flat_map (comments_on asked) gateways))

-- the same of downtime entries
abbrev pub downtime_lines : Asked → List Gateway → List (ℕ × ShownDowntime × List Origin)
downtime_lines asked gateways = map downtime_line (groups same_downtime (flat_map (downtimes_on asked) gateways))
