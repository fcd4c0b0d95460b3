-- Each record makes 1,024 comments and downtime entries at most, and a new row has the threshold of its line.
use Rattle.std.proofs.Common.{◌≡◌, ℕ, zero, suc, ◌+◌, ◌*◌, ◌/◌, ◌≤◌, ◌<◌, ◌∙◌, inl, inr, Bool, true, false, cond, List, [], ◌∷◌, ◌++◌, length, map, Option, Some, None, refl, sym, subst, ap, arith}
use Rattle.std.specs.Prelude.{All, slice_get, option_map, unwrap_or}
use Rattle.std.specs.List.{enumerate_from}
use Rattle.std.specs.Option.{option_to_list}
use Rattle.std.proofs.lemmas.Bool.{cases_lt}
use Rattle.std.proofs.lemmas.Nat.{div_below}
use Rattle.std.proofs.Math.Nat.{lt-div-mul-add, suc-mul}
use Rattle.std.proofs.lemmas.List.{length-reverse, length-map}
use Rattle.std.proofs.lemmas.List.FromFn.{length-enumerate_from}
use Rattle.std.proofs.lemmas.List.Sums.{sum_by-cons}
use Rattle.gate_model.specs.declared.object.ObjectLine.{ObjectLine}
use Rattle.gate_model.specs.declared.comments.CommentEvent.{CommentEvent}
use Rattle.gate_model.specs.declared.downtime.DowntimeEvent.{DowntimeEvent}
use Rattle.gate_model.specs.declared.downtime.DowntimeEvent.TheVariants as downtime
use Rattle.gate_model.specs.Comments.{number_made, is_addition}
use Rattle.gate_model.specs.Downtime.{scheduled_in}
use Rattle.gate_model.specs.Meaning.{Judged, object_event_of_deed, object_events, addition_of_entry, clearing_by, transition_by, plan_of, next_entry, comment_events_of_deed, comment_events_of, comment_events_of_record, comment_events, downtime_events_of_deed, downtime_events_of, downtime_events_of_record, downtime_events}
use Rattle.gate_model.specs.Table.{object_at, object_of, services_of, most_services}
use Rattle.gate_model.specs.declared.object.Kind.TheVariants.{Host}
use Rattle.gate_model.specs.Record.{is_accepted}
use Rattle.gate_model.specs.declared.object.ObjectId.{ObjectId}
use Rattle.gate_model.specs.declared.act.Deed.{Deed}
use Rattle.gate_model.specs.declared.act.Deed.TheVariants as deeds
use Rattle.gate_model.specs.declared.act.Act.{Act}
use Rattle.gate_model.specs.declared.act.Act.TheVariants as acts
use Rattle.gate_model.specs.Act.{act_of}
use Rattle.gate_model.specs.declared.status.ObjectEvent.{ObjectEvent}
use Rattle.gate_table.proofs.ServiceSteps.{services-few, services-within}
use Rattle.gate_objects.specs.Book.{new_statuses, threshold_of_status}
use Rattle.gate_model.specs.declared.record.Moment.{Moment}
use Rattle.gate_applier.specs.declared.books.Books.{Books}
use Rattle.gate_applier.specs.inner.Books.{threshold_of_line, events_of, BooksFollow, IsOfTable, CanTake, CanMake, Gives, Takes, TakesOne, room_of_books}
use Rattle.gate_applier.proofs.JudgeSteps.{next-is}

one-made : (event : CommentEvent) (made : Bool) → is_addition event ≡ made → cond (is_addition event) 1 0 ≤ 1
one-made event true is = omega (arith, ap (λ (b : Bool). let n : ℕ = cond b 1 0 in n) is)
one-made event false is = omega (arith, ap (λ (b : Bool). let n : ℕ = cond b 1 0 in n) is)

made-append : (more history : List CommentEvent) → number_made (more ++ history) ≤ length more + number_made history
made-append [] history = omega arith
made-append (event ∷ more) history =
    omega (
      arith,
      sum_by-cons (λ (other : CommentEvent). cond (is_addition other) 1 0) event (more ++ history),
      one-made event (is_addition event) refl,
      made-append more history,
    )

length-option : {X : Type 0} (one : Option X) → length (option_to_list one) ≤ 1
length-option None = omega arith
length-option (Some x) = omega arith

length-accepted : {X : Type 0} (accepted : Bool) (events : List X) (most : ℕ) → length events ≤ most → length (cond accepted events []) ≤ most
length-accepted true events most le = le
length-accepted false events most le = omega arith

-- at most one, where an object may be found
one-found : {X : Type 0} (of : ObjectId → List X) → ((found : ObjectId) → length (of found) ≤ 1) → (found : Option ObjectId) → length (unwrap_or (option_map of found) []) ≤ 1
one-found of one None = omega arith
one-found of one (Some found) = one found

comments-of-deed : (before : List ObjectEvent) (entry : ℕ) (moment : Moment) (log_index : ℕ) (deed : Deed) (found : ObjectId) → length (comment_events_of_deed before entry moment log_index deed found) ≤ 1
comments-of-deed before entry moment log_index (deeds.AddComment persistent) found = omega arith
comments-of-deed before entry moment log_index (deeds.Acknowledge sticky persistent) found = omega arith
comments-of-deed before entry moment log_index (deeds.Schedule span) found = omega arith
comments-of-deed before entry moment log_index deeds.DelAllComments found = omega arith
comments-of-deed before entry moment log_index deed found = length-option (clearing_by before (object_event_of_deed moment log_index deed found))

-- an act makes one comment at most, or one for each service of a host
comments-of-act : (table : List ObjectLine) (before : List ObjectEvent) (entry : ℕ) (moment : Moment) (log_index : ℕ) (act : Act) → most_services table ≤ 1024
    → length (comment_events_of table before entry moment log_index act) ≤ 1024
comments-of-act table before entry moment log_index (acts.On host service deed) few =
    omega (
      arith,
      one-found (comment_events_of_deed before entry moment log_index deed) (comments-of-deed before entry moment log_index deed) (object_of table host service),
    )
comments-of-act table before entry moment log_index (acts.ScheduleServices host span) few =
    let services = services_of table host in
    omega (
      arith,
      length-reverse (map (addition_of_entry log_index) (enumerate_from entry services)),
      length-map (enumerate_from entry services) (addition_of_entry log_index),
      length-enumerate_from entry services,
      services-few table host,
      few,
    )
comments-of-act table before entry moment log_index act few = omega arith

-- so many comments were made at most
pub made-few : (table : List ObjectLine) (judgements : List Judged) → most_services table ≤ 1024 → number_made (comment_events table judgements) ≤ 1024 * length judgements
made-few table [] few = omega arith
made-few table (judgement ∷ before) few =
    omega (
      arith,
      made-append (comment_events_of_record table before judgement) (comment_events table before),
      length-accepted (is_accepted judgement.outcome)
          (comment_events_of table (object_events table before) (next_entry table before) judgement.applied.moment judgement.log_index (act_of judgement.applied.item.body)) 1024
          (comments-of-act table (object_events table before) (next_entry table before) judgement.applied.moment judgement.log_index (act_of judgement.applied.item.body) few),
      made-few table before few,
    )

scheduled-append : (more history : List DowntimeEvent) → length (scheduled_in 1 (more ++ history)) ≤ length more + length (scheduled_in 1 history)
scheduled-append [] history = omega arith
scheduled-append (downtime.Schedule moment object plan ∷ more) history = omega (arith, scheduled-append more history)
scheduled-append (downtime.Delete moment id ∷ more) history = omega (arith, scheduled-append more history)
scheduled-append (downtime.Transition moment place ∷ more) history = omega (arith, scheduled-append more history)

entries-of-deed : (before : List ObjectEvent) (moment : Moment) (log_index : ℕ) (deed : Deed) (found : ObjectId) → length (downtime_events_of_deed before moment log_index deed found) ≤ 1
entries-of-deed before moment log_index (deeds.Schedule span) found = omega arith
entries-of-deed before moment log_index deed found = length-option (transition_by before (object_event_of_deed moment log_index deed found))

-- nor does an act make more entries
entries-of-act : (table : List ObjectLine) (before : List ObjectEvent) (moment : Moment) (log_index : ℕ) (act : Act) → most_services table ≤ 1024
    → length (downtime_events_of table before moment log_index act) ≤ 1024
entries-of-act table before moment log_index (acts.On host service deed) few =
    omega (arith, one-found (downtime_events_of_deed before moment log_index deed) (entries-of-deed before moment log_index deed) (object_of table host service))
entries-of-act table before moment log_index (acts.ScheduleServices host span) few =
    let services = services_of table host in
    let make : ObjectId → DowntimeEvent = λ service. downtime.Schedule moment service (plan_of span log_index) in
    omega (arith, length-reverse (map make services), length-map services make, services-few table host, few)
entries-of-act table before moment log_index act few = omega arith

-- and so many entries were scheduled
pub scheduled-few : (table : List ObjectLine) (judgements : List Judged) → most_services table ≤ 1024 → length (scheduled_in 1 (downtime_events table judgements)) ≤ 1024 * length judgements
scheduled-few table [] few = omega arith
scheduled-few table (judgement ∷ before) few =
    omega (
      arith,
      scheduled-append (downtime_events_of_record table before judgement) (downtime_events table before),
      length-accepted (is_accepted judgement.outcome)
          (downtime_events_of table (object_events table before) judgement.applied.moment judgement.log_index (act_of judgement.applied.item.body)) 1024
          (entries-of-act table (object_events table before) judgement.applied.moment judgement.log_index (act_of judgement.applied.item.body) few),
      scheduled-few table before few,
    )

-- where the quotient isn't 0, the divisor is no greater
pub whole-room : (room one : ℕ) → 1 ≤ room / one → one ≤ room
whole-room room one some = elim (cases_lt room one) [
  | inl less ↦ let none = div_below room one 1 (omega (arith, less)) (omega (arith, less)) in absurd (omega (arith, none, some))
  | inr enough ↦ enough
]

-- no room for one record
pub no-room : (room one : ℕ) → room < one → room / one ≡ 0
no-room room one less = let none = div_below room one 1 (omega (arith, less)) (omega (arith, less)) in omega (arith, none)

-- room for one record
pub some-room : (room one : ℕ) → 1 ≤ one → one ≤ room → 1 ≤ room / one
some-room room one some enough = elim (cases_lt (room / one) 1) [
  | inl none ↦
      let zero_quotient : room / one ≡ 0 = omega (arith, none) in
      let up : room < room / one * one + one = lt-div-mul-add (omega (arith, some)) in
      absurd (omega (arith, enough, up, ap (λ q. q * one) zero_quotient))
  | inr less ↦ less
]

-- where the entries of one record have no room, the comments' room doesn't count
pub short-room : (old new : Books) → new.per_record ≡ old.per_record → new.downtime ≡ old.downtime → old.downtime.room < old.per_record
    → room_of_books new ≡ room_of_books old
short-room old new same downtime less =
    let none = no-room old.downtime.room old.per_record less in
    rw (same, downtime) (omega (arith, none))

-- room for the comments and entries of one record
pub enough-room : (books : Books) → 1 ≤ books.per_record → books.per_record ≤ books.comments.room → books.per_record ≤ books.downtime.room → 1 ≤ room_of_books books
enough-room books some comments entries =
    omega (arith, some-room books.comments.room books.per_record some comments, some-room books.downtime.room books.per_record some entries)

-- books in order after so few records can take one more
pub can-take : (table : List ObjectLine) (opening moment : Moment) (judgements : List Judged) (books : Books) → IsOfTable table opening books
    → BooksFollow (events_of table judgements) moment books → 1 ≤ room_of_books books → length judgements ≤ 1000000 → CanTake table books
can-take table opening moment judgements books is follow room few =
    let modest : most_services table ≤ 1024 = omega (arith, is.per_record_is, is.few) in
    record {
      rows = is.rows;
      places = is.places;
      one = omega (arith, is.per_record_is);
      services = omega (arith, is.per_record_is);
      make = record {
        comment_room = whole-room books.comments.room books.per_record (omega (arith, room));
        entry_room = whole-room books.downtime.room books.per_record (omega (arith, room));
        comment_ids = omega (arith, is.few, follow.next_comment_is, made-few table judgements modest, few);
        entry_ids = omega (arith, is.few, next-is books.downtime (downtime_events table judgements) moment follow.downtime_stands, scheduled-few table judgements modest, few);
      };
    }

-- more room is no less by whole records
pub room-kept : (old new one : ℕ) → 1 ≤ one → old ≤ new → old / one ≤ new / one
room-kept old new one some more =
    let positive : 0 < one = omega (arith, some) in
    let up : new < new / one * one + one = lt-div-mul-add positive in
    let wide : suc (new / one) * one ≡ new / one * one + one = suc-mul (new / one) one in
    let below : old / one < suc (new / one) = div_below old one (suc (new / one)) positive (omega (arith, more, up, wide)) in
    omega (arith, below)

-- the room of one record less, by whole records
pub room-less : (old new one : ℕ) → 1 ≤ one → old ≤ new + one → old / one ≤ new / one + 1
room-less old new one some less =
    let q = new / one in
    let positive : 0 < one = omega (arith, some) in
    let up : new < q * one + one = lt-div-mul-add positive in
    let wide : suc (suc q) * one ≡ q * one + one + one = suc-mul (suc q) one ∙ ap (λ n. n + one) (suc-mul q one) in
    let below : old / one < suc (suc q) = div_below old one (suc (suc q)) positive (omega (arith, less, up, wide)) in
    omega (arith, below)

-- what takes one takes no more than a record may
pub takes_one : (old new : Books) → 1 ≤ old.per_record → TakesOne old new → Takes old.per_record old new
takes_one old new one takes = record {
  table = takes.table;
  comments = omega (arith, one, takes.comments);
  entries = omega (arith, one, takes.entries);
}

-- ---- room and ids for several

pub make-fewer : (count most : ℕ) (books : Books) → count ≤ most → CanMake most books → CanMake count books
make-fewer count most books fewer make = record {
  comment_room = omega (arith, fewer, make.comment_room);
  entry_room = omega (arith, fewer, make.entry_room);
  comment_ids = omega (arith, fewer, make.comment_ids);
  entry_ids = omega (arith, fewer, make.entry_ids);
}

-- one was made, and the others are left
pub make-others : (one : ObjectId) (left objects : List ObjectId) (old new : Books) → objects ≡ one ∷ left → CanMake (length objects) old → TakesOne old new → Gives 1 old new → CanMake (length left) new
make-others one left objects old new is make takes gives =
    let count : length objects ≡ suc (length left) = ap length is in
    record {
      comment_room = omega (arith, count, make.comment_room, takes.comments);
      entry_room = omega (arith, count, make.entry_room, takes.entries);
      comment_ids = omega (arith, count, make.comment_ids, gives.comments);
      entry_ids = omega (arith, count, make.entry_ids, gives.entries);
    }

pub within-others : (bound bound' : ℕ) (one : ObjectId) (left objects : List ObjectId) → objects ≡ one ∷ left → bound' ≡ bound → All (λ (o : ObjectId). o.place < bound) objects → All (λ (o : ObjectId). o.place < bound') left
within-others bound bound' one left objects is same all = λ k d less.
    let rest = subst (All (λ (o : ObjectId). o.place < bound)) is all in
    omega (arith, same, rest (suc k) d (omega (arith, less)))

pub services-inside : (table : List ObjectLine) (host : List ℕ) (services : List ObjectId) (bound : ℕ) → services ≡ services_of table host → bound ≡ length table → All (λ (o : ObjectId). o.place < bound) services
services-inside table host services bound is same = λ k d less.
    let all = subst (All (λ (o : ObjectId). o.place < length table)) (sym is) (services-within table host) in
    omega (arith, same, all k d less)

pub services-count : (table : List ObjectLine) (host : List ℕ) (services : List ObjectId) → services ≡ services_of table host → length services ≤ most_services table
services-count table host services is = omega (arith, ap length is, services-few table host)

-- the place of a host that was found
pub some-place : (found : Option ℕ) (object : ObjectId) → option_map (object_at Host) found ≡ Some object → found ≡ Some object.place
some-place None object e = cc
some-place (Some place) object e = ap (option_map (λ (one : ObjectId). one.place)) e

-- ---- opening

pub threshold-new : (from : ℕ) (lines : List ObjectLine) (place : ℕ) → threshold_of_status (slice_get (new_statuses from lines) place) ≡ threshold_of_line (slice_get lines place)
threshold-new from [] place = refl
threshold-new from (line ∷ lines) zero = refl
threshold-new from (line ∷ lines) (suc place) = threshold-new (from + 1) lines place
