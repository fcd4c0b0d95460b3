-- The board of a gateway is plain, so its page is read as what the board shows.
use Rattle.std.proofs.Common.{◌≡◌, ℕ, ◌+◌, ◌^◌, ◌≤◌, ◌<◌, ◌==◌, ◌&&◌, Bool, true, false, List, [], ◌∷◌, map, length, Option, Some, None, Result, refl, arith}
use Rattle.std.specs.Prelude.{MatchResult, reverse, filter, slice_get, nat_le, IfSome, if◌then◌else◌}
use Rattle.std.specs.List.{AllByRecursion, enumerate_from}
use Rattle.std.proofs.lemmas.Bool.{leb-true}
use Rattle.std.proofs.lemmas.List.{length-reverse}
use Rattle.std.proofs.lemmas.List.Sums.{count_by-le-length}
use Rattle.gate_model.specs.declared.record.Moment.{Moment}
use Rattle.gate_model.specs.declared.record.Record.{Record}
use Rattle.gate_model.specs.declared.object.ObjectLine.{ObjectLine}
use Rattle.gate_model.specs.declared.comments.Comment.{Comment}
use Rattle.gate_model.specs.declared.downtime.Scheduled.{Scheduled}
use Rattle.gate_model.specs.declared.downtime.Entry.{Entry}
use Rattle.gate_model.specs.declared.downtime.DowntimeEvent.{DowntimeEvent}
use Rattle.gate_model.specs.Act.{act_of}
use Rattle.gate_model.specs.Comments.{comments_of}
use Rattle.gate_model.specs.Downtime.{scheduled_in, entries_by, entries_of, begin_of, is_live, is_active_in, transition_of, was_deleted}
use Rattle.gate_model.specs.Meaning.{Judged, object_events, downtime_events, comment_events, outlives, is_live_after, history_of, last_result_at, comments_at, depth_at, LiveEntry, downtimes_at}
use Rattle.gate_table.proofs.ServiceSteps.{services-modest}
use Rattle.gate_applier.proofs.CountSteps.{made-few, scheduled-few}
use Rattle.gate_pages.specs.Rows.{part_of, author_in, moment_of, object_row, comment_row, comment_rows, shown_begin, downtime_row, downtime_rows}
use Rattle.gate_lines.specs.Lines.{last_moment}
use Rattle.gate_pages.specs.StatusPage.{status_text}
use Rattle.status_reading.specs.declared.page.StatusPage.{StatusPage}
use Rattle.status_reading.specs.declared.page.ReadFault.{ReadFault}
use Rattle.status_reading.specs.declared.page.ReadFault.TheVariants.{OutOfMemory}
use Rattle.status_reading.specs.Rows.{page_view}
use Rattle.status_reading.specs.Readable.{Fits, MayFit}
use Rattle.status_reading.specs.Board.{HoldsNone, shown_board, IsPlainObject, IsPlainComment, IsPlainDowntime, IsPlainBoard}
use Rattle.status_reading.specs.Gateway.{IsOfSubmission, GatewayView, published_board, IsGateway}
use Rattle.status_reading.proofs.SamePages.{Reading}
use Rattle.status_reading.proofs.BoardLaws.{reads_board}
use Rattle.status_reading.proofs.SoundLaws.{gateway_sound}
use Rattle.status_reading.proofs.EachSteps.{each_weaker, each_reverse, each_filter, each_at, each_map}
use Rattle.status_reading.proofs.SubmissionSteps.{IsPlainAct, IsPlainBody, plain_body}
use Rattle.status_reading.proofs.TableSteps.{IsPlainLine, plain_lines, plain_host, plain_service}
use Rattle.status_reading.proofs.EventSteps.{each_judged, length_judged, events_fit, last_fits, ids_below, downtimes_plain, IsPlainScheduled, scheduled_plain}

-- what a page needs of a record
record IsPlainRecord (applied : Record) : Type 0 where
  moment : Fits applied.moment.0
  body : IsPlainBody applied.item.body

plain_record : (applied : Record) → IsOfSubmission applied → IsPlainRecord applied
plain_record applied is = record { moment = is.moment; body = plain_body applied.item.body is.submission }

author_plain : (found : Option Record) → IfSome found IsPlainRecord → HoldsNone (part_of author_in found)
author_plain None plain = refl
author_plain (Some applied) plain = plain.body.author

moment_fits : (found : Option Record) → IfSome found IsPlainRecord → Fits (moment_of found).0
moment_fits None plain = omega arith
moment_fits (Some applied) plain = plain.moment

-- a beginning that is shown isn't later than the page
shown_fits : (begun : Bool) (begin : ℕ) → (begun ≡ true → Fits begin) → MayFit (if begun then Some begin else None)
shown_fits true begin fits = fits refl
shown_fits false begin fits = tt

begin_fits : (moment : Moment) (begin : Option ℕ) → Fits moment.0 → MayFit (shown_begin moment begin)
begin_fits moment None fits = tt
begin_fits moment (Some begin) fits =
    shown_fits (nat_le begin moment.0) begin
    (λ is. let less : begin ≤ moment.0 = leb-true begin moment.0 is in omega (arith, less, fits))

length_entries : (transition : Scheduled → Option Moment) (deleted : ℕ → Bool) (list : List Scheduled)
    → length (entries_by transition deleted list) ≡ length list
length_entries transition deleted [] = refl
length_entries transition deleted (one ∷ list) = omega (arith, length_entries transition deleted list)

-- ---- the rows

abbrev history : GatewayView → List Judged
history gateway = history_of gateway.table gateway.records

abbrev events : GatewayView → List DowntimeEvent
events gateway = downtime_events gateway.table (history gateway)

abbrev entries : GatewayView → List Entry
entries gateway = entries_of 1 (events gateway)

module _ (gateway : GatewayView) (is : IsGateway gateway) where
  lines : AllByRecursion IsPlainLine gateway.table
  lines = plain_lines gateway.table is.table

  records : AllByRecursion IsPlainRecord gateway.records
  records = each_weaker IsOfSubmission IsPlainRecord plain_record gateway.records is.records

  record_at : (log_index : ℕ) → IfSome (slice_get gateway.records log_index) IsPlainRecord
  record_at log_index = each_at IsPlainRecord gateway.records log_index records

  -- what holds of a plain record holds of each as it was judged
  judged_all : (P : Record → Type 0) → ((applied : Record) → IsPlainRecord applied → P applied)
      → AllByRecursion (λ (judgement : Judged). P judgement.applied) (history gateway)
  judged_all P step =
      each_judged P gateway.table (reverse gateway.records)
      (each_reverse P gateway.records (each_weaker IsPlainRecord P step gateway.records records))

  judged_few : length (history gateway) ≤ 1000000
  judged_few =
      omega (arith, length_judged gateway.table (reverse gateway.records), length-reverse gateway.records, is.few)

  scheduled_few : length (scheduled_in 1 (events gateway)) ≤ 1024000000
  scheduled_few =
      let few = scheduled-few gateway.table (history gateway) (services-modest gateway.table is.table) in
      omega (arith, few, judged_few)

  -- ---- objects

  last_plain : (place : ℕ) → MayFit (last_moment (last_result_at gateway.table gateway.records place))
  last_plain place =
      last_fits place (object_events gateway.table (history gateway))
      (events_fit gateway.table (history gateway)
      (judged_all (λ (applied : Record). Fits applied.moment.0) (λ applied plain. plain.moment)))

  depth_fits : (place : ℕ) → Fits (depth_at gateway.table gateway.records gateway.moment place)
  depth_fits place =
      let all = entries gateway in
      let is_counted : Entry → Bool =
      λ entry. (entry.scheduled.object.place == place) && is_active_in all gateway.moment.0 entry.scheduled.id
      in
      let scheduled = scheduled_in 1 (events gateway) in
      let same = length_entries (transition_of (events gateway) 1) (was_deleted (events gateway) 1) scheduled in
      omega (arith, count_by-le-length is_counted all, same, scheduled_few)

  object_plain : (place : ℕ) (line : ObjectLine) → IsPlainLine line
      → IsPlainObject (object_row gateway.table gateway.opening gateway.records gateway.moment (place, line))
  object_plain place line plain =
      record { host = plain.host; service = plain.service; last = last_plain place; depth = depth_fits place }

  objects_plain : (place : ℕ) (table : List ObjectLine) → AllByRecursion IsPlainLine table
      → AllByRecursion IsPlainObject
      (map (object_row gateway.table gateway.opening gateway.records gateway.moment) (enumerate_from place table))
  objects_plain place [] all = tt
  objects_plain place (line ∷ table) all = (object_plain place line all.0, objects_plain (place + 1) table all.1)

  -- ---- comments

  comment_plain : (comment : Comment) → comment.id < 2 ^ 32
      → IsPlainComment (comment_row gateway.table gateway.records comment)
  comment_plain comment fits = record {
    id = fits;
    host = plain_host gateway.table comment.object.place lines;
    service = plain_service gateway.table comment.object.place lines;
    moment = moment_fits (slice_get gateway.records comment.log_index) (record_at comment.log_index);
    author = author_plain (slice_get gateway.records comment.log_index) (record_at comment.log_index);
  }

  comments_plain : AllByRecursion IsPlainComment (comment_rows gateway.table gateway.records gateway.moment)
  comments_plain =
      let made = comment_events gateway.table (history gateway) in
      let few = made-few gateway.table (history gateway) (services-modest gateway.table is.table) in
      let stands : Comment → Bool =
      λ one. outlives (is_live_after gateway.table (history gateway) gateway.moment) one.source
      in
      each_map (λ (one : Comment). one.id < 2 ^ 32) IsPlainComment (comment_row gateway.table gateway.records)
      comment_plain (comments_at gateway.table gateway.records gateway.moment)
      (each_filter (λ (one : Comment). one.id < 2 ^ 32) stands (comments_of 1 made)
      (ids_below 1 [] made (2 ^ 32) (omega (arith, few, judged_few))))

  -- ---- downtime entries

  downtime_plain : (one : LiveEntry) → IsPlainScheduled one.scheduled
      → IsPlainDowntime (downtime_row gateway.table gateway.records gateway.moment one)
  downtime_plain one plain =
      let log_index = one.scheduled.plan.log_index in
      record {
        id = plain.id;
        host = plain_host gateway.table one.scheduled.object.place lines;
        service = plain_service gateway.table one.scheduled.object.place lines;
        trigger = plain.plan.trigger;
        start = plain.plan.start;
        end = plain.plan.end;
        duration = plain.plan.duration;
        begin = begin_fits gateway.moment one.begin is.moment;
        author = author_plain (slice_get gateway.records log_index) (record_at log_index);
      }

  scheduled_all : AllByRecursion IsPlainScheduled (scheduled_in 1 (events gateway))
  scheduled_all =
      scheduled_plain (events gateway) (omega (arith, scheduled_few))
      (downtimes_plain gateway.table (history gateway)
      (judged_all (λ (applied : Record). IsPlainAct (act_of applied.item.body)) (λ applied plain. plain.body.plan)))

  entries_plain : AllByRecursion (λ (entry : Entry). IsPlainScheduled entry.scheduled) (entries gateway)
  entries_plain =
      each_map IsPlainScheduled (λ (entry : Entry). IsPlainScheduled entry.scheduled)
      (λ (one : Scheduled). record {
        scheduled = one;
        transition = transition_of (events gateway) 1 one;
        deleted = was_deleted (events gateway) 1 one.id;
      })
      (λ one plain. plain) (scheduled_in 1 (events gateway)) scheduled_all

  live_plain : AllByRecursion (λ (one : LiveEntry). IsPlainScheduled one.scheduled)
      (downtimes_at gateway.table gateway.records gateway.moment)
  live_plain =
      let plain : Entry → Type 0 = λ entry. IsPlainScheduled entry.scheduled in
      let is_shown : Entry → Bool = λ one. is_live 1 (events gateway) gateway.moment one.scheduled.id in
      each_map plain (λ (one : LiveEntry). IsPlainScheduled one.scheduled)
      (λ (one : Entry). record { scheduled = one.scheduled; begin = begin_of 1 (events gateway) one.scheduled.id })
      (λ one holds. holds) (filter is_shown (reverse (entries gateway)))
      (each_filter plain is_shown (reverse (entries gateway)) (each_reverse plain (entries gateway) entries_plain))

  downtime_rows_plain : AllByRecursion IsPlainDowntime (downtime_rows gateway.table gateway.records gateway.moment)
  downtime_rows_plain =
      each_map (λ (one : LiveEntry). IsPlainScheduled one.scheduled) IsPlainDowntime
      (downtime_row gateway.table gateway.records gateway.moment) downtime_plain
      (downtimes_at gateway.table gateway.records gateway.moment) live_plain

  plain_board : IsPlainBoard (published_board gateway)
  plain_board = record {
    moment = is.moment;
    objects = objects_plain 0 gateway.table lines;
    comments = comments_plain;
    downtimes = downtime_rows_plain;
    closing = is.closing;
  }

-- the page of a gateway's board is read as what the board shows
pub reads_gateway : (text : List ℕ) (result : Result StatusPage ReadFault) → Reading text result
    → (gateway : GatewayView) → IsGateway gateway → text ≡ status_text (published_board gateway)
    → MatchResult result (λ found. page_view found ≡ shown_board (published_board gateway))
    (λ fault. fault ≡ OutOfMemory)
reads_gateway text result reading gateway is =
    reads_board text result reading (published_board gateway) (plain_board gateway is) (gateway_sound gateway is)
