-- For proofs and private functions alone: what a book keeps.
use Rattle.std.specs.Prelude.{◌≡◌, ◌+◌, ◌*◌, ◌≤◌, ◌<◌, ◌^◌, [], map, length, count_by, vec_len, vec_capacity}
use Rattle.std.specs.BinaryHeap.{heap_len, heap_capacity}
use Rattle.gate_downtime.specs.declared.book.DowntimeBook.TheInside.{Inside}
use Rattle.gate_downtime.specs.Book.{DowntimeView}
use Rattle.gate_downtime.specs.inner.Rows.{row_entries, is_unsettled}
use Rattle.gate_downtime.specs.inner.Tally.{IsSound}
use Rattle.gate_downtime.specs.inner.Gone.{is_returned, returned_ids}
use Rattle.gate_downtime.specs.inner.Live.{live_ids, IsIdle}
use Rattle.gate_downtime.specs.inner.Links.{Spreading}
use Rattle.gate_downtime.specs.inner.Walk.{AllFlexLinked}

abbrev pub book_view : Inside → DowntimeView
book_view b = record {
  entries = row_entries b.chains.rows.items;
  moment = b.chains.moment;
  first_id = b.chains.first;
  objects = vec_len b.heads;
  room = b.room;
  returned = returned_ids b.chains.first (map is_returned b.chains.tally.gone.marks.items);
}

pub record BookInvariant (b : Inside) : Type 0 where
  pub sound : IsSound b.chains.moment.0 b.chains.rows.items b.chains.tally
  pub spreading : Spreading b.chains.first b.chains.rows.items b.chains.links.items []
  pub waiting : AllFlexLinked b.chains.moment.0 b.chains.rows.items b.chains.links.items b.heads.items
  pub idle : b.chains.pending.items ≡ []
  pub objects : vec_len b.heads ≡ vec_len b.chains.tally.depths
  pub ids : b.chains.first + length b.chains.rows.items ≤ 2 ^ 32
  pub small : b.room < 2 ^ 32
  pub room_rows : vec_len b.chains.rows + b.room ≤ vec_capacity b.chains.rows
  pub room_links : vec_len b.chains.links + b.room ≤ vec_capacity b.chains.links
  pub room_deadlines :
      heap_len b.chains.tally.deadlines + 2 * count_by is_unsettled b.chains.rows.items + 4 * b.room
      ≤ heap_capacity b.chains.tally.deadlines
  pub room_pending : vec_len b.chains.rows + b.room ≤ vec_capacity b.chains.pending
  pub room_marks : vec_len b.chains.tally.gone.marks + b.room ≤ vec_capacity b.chains.tally.gone.marks
  pub live_is : b.chains.tally.live.ids.items ≡ live_ids b.chains.first b.chains.moment.0 b.chains.rows.items
  pub live_idle : IsIdle b.chains.tally.live
  pub room_live : b.room ≤ b.chains.tally.live.ids.room
  pub room_gone : vec_len b.chains.rows + b.room ≤ heap_capacity b.chains.tally.gone.heap
