-- A book after more memory was taken: it keeps all that it keeps, and has more room.
use Rattle.std.proofs.Common.{◌≡◌, ℕ, ◌≤◌, ◌<◌, ◌^◌, List, [], get_or, inl, inr, length, sym, ap, ◌∙◌, subst, arith, vec_len}
use Rattle.std.specs.Prelude.{count_by, Contains}
use Rattle.std.specs.BinaryHeap.{heap_items, heap_len, heap_capacity}
use Rattle.std.proofs.lemmas.List.Sums.{count_by-le-length}
use Rattle.gate_downtime.specs.declared.row.Row.{Row}
use Rattle.gate_downtime.specs.declared.links.Link.{Link}
use Rattle.gate_downtime.specs.declared.gone.Mark.{Mark}
use Rattle.gate_downtime.specs.declared.gone.Gone.{Gone}
use Rattle.gate_downtime.specs.declared.live.LiveIds.{LiveIds}
use Rattle.gate_downtime.specs.declared.tally.Tally.{Tally}
use Rattle.gate_downtime.specs.declared.chains.Chains.{Chains}
use Rattle.gate_downtime.specs.declared.book.DowntimeBook.TheInside.{Inside}
use Rattle.gate_downtime.specs.inner.Rows.{Sound, Deadlines, is_unsettled}
use Rattle.gate_downtime.specs.inner.Gone.{Listed, IsKept, Awaits, AllGone, is_free}
use Rattle.gate_downtime.specs.inner.Live.{AllNoted}
use Rattle.gate_downtime.specs.inner.Tally.{IsSound, KeepsTally}
use Rattle.gate_downtime.specs.inner.Chains.{KeepsRows, HasChainRoom}
use Rattle.gate_downtime.specs.inner.Inside.{BookInvariant}
use Rattle.gate_downtime.specs.inner.Links.{Spreading}
use Rattle.gate_downtime.specs.inner.Walk.{AllFlexLinked}

gone-kept : (t : ℕ) (rows : List Row) (old new : Gone) → new.marks.items ≡ old.marks.items → heap_items new.heap ≡ heap_items old.heap → heap_len new.heap ≡ heap_len old.heap → heap_capacity old.heap ≤ heap_capacity new.heap
    → AllGone t rows old → AllGone t rows new
gone-kept t rows old new marks heap len room s =
    let P : List Mark → Type 0 = λ ms. IsKept (length rows) ms (heap_items new.heap) in
    let Q : Listed → Type 0 = λ xs. IsKept (length rows) old.marks.items xs in
    record {
      kept = subst P (sym marks) (subst Q (sym heap) s.kept);
      few = omega (arith, s.few, len, ap (count_by is_free) marks);
      room = omega (arith, s.room, room);
      awaits = λ k d lt.
          let R : List Mark → Type 0 = λ ms. Awaits t ms (heap_items new.heap) k (get_or rows k d) in
          let S : Listed → Type 0 = λ xs. Awaits t old.marks.items xs k (get_or rows k d) in
          subst R (sym marks) (subst S (sym heap) (s.awaits k d lt));
    }

noted-kept : (t : ℕ) (rows : List Row) (old new : LiveIds) → new.ids.items ≡ old.ids.items → new.ended ≡ old.ended → new.many ≡ old.many → AllNoted t rows old → AllNoted t rows new
noted-kept t rows old new ids ended many noted k d lt off has =
    let P : List ℕ → Type 0 = λ xs. Contains xs (get_or rows k d).entry.scheduled.id in
    let Q : List ℕ → Type 0 = λ xs. Contains xs (get_or rows k d).entry.scheduled.id in
    elim (noted k d lt off (subst P ids has)) [
      | inl all ↦ inl (many ∙ all)
      | inr w ↦ inr (subst Q (sym (ap (λ v. v.items) ended)) w)
    ]

sound-kept : (t : ℕ) (rows : List Row) (old new : Tally) → KeepsTally old new → IsSound t rows old → IsSound t rows new
sound-kept t rows old new k s =
    let P : List ℕ → Type 0 = λ ds. Sound t rows ds (heap_items new.deadlines) in
    let Q : Deadlines → Type 0 = λ xs. Sound t rows old.depths.items xs in
    record {
      sound = subst P (sym (ap (λ v. v.items) k.depths)) (subst Q (sym k.deadlines.items) s.sound);
      gone = gone-kept t rows old.gone new.gone k.marks.items k.heap.items k.heap.len k.heap.capacity s.gone;
      noted = noted-kept t rows old.live new.live k.ids k.ended k.many s.noted;
    }

-- the book after its memory was taken, in whole or in part
pub book-kept : (b : Inside) (chains : Chains) → KeepsRows b.chains chains → BookInvariant b → BookInvariant (record { chains = chains; heads = b.heads; room = b.room })
book-kept b chains k s =
    let t : ℕ = b.chains.moment.0 in
    let P : List Row → Type 0 = λ xs. IsSound t xs chains.tally in
    let Q : List Row → Type 0 = λ xs. Spreading b.chains.first xs chains.links.items [] in
    let R : List Link → Type 0 = λ xs. Spreading b.chains.first b.chains.rows.items xs [] in
    let S : List Row → Type 0 = λ xs. AllFlexLinked t xs chains.links.items b.heads.items in
    let T : List Link → Type 0 = λ xs. AllFlexLinked t b.chains.rows.items xs b.heads.items in
    record {
      sound = rw k.moment (subst P (sym k.rows.items) (sound-kept t _ b.chains.tally chains.tally k.tally s.sound));
      spreading = rw k.first (subst Q (sym k.rows.items) (subst R (sym k.links.items) s.spreading));
      waiting = rw k.moment (subst S (sym k.rows.items) (subst T (sym k.links.items) s.waiting));
      idle = k.pending.items ∙ s.idle;
      objects = s.objects ∙ sym (ap vec_len k.tally.depths);
      ids = omega (arith, s.ids, k.first, ap length k.rows.items);
      small = s.small;
      room_rows = omega (arith, s.room_rows, k.rows.len, k.rows.capacity);
      room_links = omega (arith, s.room_links, k.links.len, k.links.capacity);
      room_deadlines = omega (arith, s.room_deadlines, ap (count_by is_unsettled) k.rows.items, k.tally.deadlines.len, k.tally.deadlines.capacity);
      room_pending = omega (arith, s.room_pending, k.rows.len, k.pending.capacity);
      room_marks = omega (arith, s.room_marks, k.tally.marks.len, k.tally.marks.capacity);
      live_is = rw (k.first, k.moment, k.rows.items) (k.tally.ids ∙ s.live_is);
      live_idle = record { none = ap (λ v. v.items) k.tally.ended ∙ s.live_idle.none; few = k.tally.many ∙ s.live_idle.few };
      room_live = omega (arith, s.room_live, k.tally.ids_room);
      room_gone = omega (arith, s.room_gone, k.rows.len, k.tally.heap.capacity);
    }

-- the book after the memory for so many more rows was taken
pub book-roomier : (b : Inside) (chains : Chains) (room : ℕ) → KeepsRows b.chains chains → room < 2 ^ 32 → HasChainRoom room chains → BookInvariant b → BookInvariant (record { chains = chains; heads = b.heads; room = room })
book-roomier b chains room k small has s =
    let kept : BookInvariant (record { chains = chains; heads = b.heads; room = b.room }) = book-kept b chains k s in
    record {
      sound = kept.sound;
      spreading = kept.spreading;
      waiting = kept.waiting;
      idle = kept.idle;
      objects = kept.objects;
      ids = kept.ids;
      small = small;
      room_rows = has.rows;
      room_links = has.links;
      room_deadlines = omega (arith, has.tally.deadlines, count_by-le-length is_unsettled chains.rows.items, chains.rows.ok.0);
      room_pending = has.pending;
      room_marks = has.tally.marks;
      live_is = kept.live_is;
      live_idle = kept.live_idle;
      room_live = has.tally.ids;
      room_gone = has.tally.heap;
    }
