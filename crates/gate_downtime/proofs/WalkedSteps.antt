-- A book after a walk: after the transition of an object, or a deletion.
use Rattle.std.proofs.Common.{◌≡◌, ℕ, ◌<◌, true, map, get_or, length, Option, ap, ◌∙◌, arith}
use Rattle.std.specs.Prelude.{vec_len, vec_capacity}
use Rattle.std.specs.Global.{Vec}
use Rattle.gate_downtime.specs.Book.{after_transition}
use Rattle.gate_downtime.specs.declared.book.DowntimeBook.TheInside.{Inside}
use Rattle.gate_downtime.specs.declared.links.Link.{Link}
use Rattle.gate_downtime.specs.declared.live.LiveIds.{LiveIds}
use Rattle.gate_downtime.specs.declared.chains.Chains.{Chains}
use Rattle.gate_downtime.specs.inner.Rows.{is_live_row, live_at, some-row}
use Rattle.gate_downtime.specs.inner.Live.{live_ids, DropsEnded}
use Rattle.gate_downtime.specs.inner.Walk.{AllFlexLinked, entry_list}
use Rattle.gate_downtime.specs.inner.Pruning.{SameKin}
use Rattle.gate_downtime.specs.inner.Cancel.{HasStruck}
use Rattle.gate_downtime.specs.inner.Chains.{IsReady, Keeps}
use Rattle.gate_downtime.specs.inner.Inside.{BookInvariant}
use Rattle.gate_downtime.proofs.NotedSteps.{live-noted}
use Rattle.gate_downtime.proofs.SpreadSteps.{spread-end}
use Rattle.gate_downtime.proofs.EntrySteps.{AfterCall, after-call, live-turned-before, live-struck-before}
use Rattle.gate_downtime.proofs.PruneSteps.{spreading-kin}
use Rattle.gate_downtime.proofs.RowSteps.{length-turned, waiting-turned}
use Rattle.gate_downtime.proofs.CancelSteps.{waiting-struck}

after-walk : (b : Inside) (w : Chains) → BookInvariant b → Keeps b.chains w → IsReady w → length w.rows.items ≡ length b.chains.rows.items
    → ((k : ℕ) → k < length w.rows.items → live_at b.chains.moment.0 (get_or w.rows.items k some-row) ≡ true → live_at b.chains.moment.0 (get_or b.chains.rows.items k some-row) ≡ true)
    → AfterCall w.first w.moment.0 w.rows.items w.tally.live
after-walk b w inv k ready long less =
    rw (k.first, k.moment)
    (after-call _ _ _ _ _ b.chains.tally.live _ (rw k.first at (spread-end _ _ _ ready.spreading)) long less inv.live_is k.size.ids_same (rw k.moment at ready.current.sound.noted))

pub turned-after : (b : Inside) (w : Chains) (place : ℕ) → BookInvariant b → Keeps b.chains w → IsReady w → entry_list w.rows.items ≡ map (after_transition b.chains.moment place) (entry_list b.chains.rows.items)
    → AfterCall w.first w.moment.0 w.rows.items w.tally.live
turned-after b w place inv k ready turned =
    after-walk b w inv k ready (length-turned _ _ _ _ turned)
    (live-turned-before b.chains.first _ _ _ _ (spread-end _ _ _ inv.spreading) (rw k.first at (spread-end _ _ _ ready.spreading)) (length-turned _ _ _ _ turned) turned)

pub struck-after : (b : Inside) (w : Chains) → BookInvariant b → Keeps b.chains w → IsReady w → HasStruck b.chains.rows.items w.rows.items → AfterCall w.first w.moment.0 w.rows.items w.tally.live
struck-after b w inv k ready struck = after-walk b w inv k ready struck.struck.len (live-struck-before _ _ _ struck)

pub turned-waiting : (b : Inside) (w : Chains) (place : ℕ) → BookInvariant b → Keeps b.chains w → entry_list w.rows.items ≡ map (after_transition b.chains.moment place) (entry_list b.chains.rows.items)
    → AllFlexLinked w.moment.0 w.rows.items w.links.items b.heads.items
turned-waiting b w place inv k turned = rw (k.moment, k.links) (waiting-turned _ _ _ _ _ _ turned inv.waiting)

pub struck-waiting : (b : Inside) (w : Chains) → BookInvariant b → Keeps b.chains w → HasStruck b.chains.rows.items w.rows.items → AllFlexLinked w.moment.0 w.rows.items w.links.items b.heads.items
struck-waiting b w inv k struck = rw (k.moment, k.links) (waiting-struck _ _ _ _ _ struck inv.waiting)

-- the book, once the lists of waiting rows were pruned and what has ended was removed
pub walked-book : (b : Inside) (w : Chains) (links : Vec Link) (live : LiveIds) (heads : Vec (Option ℕ)) → BookInvariant b → Keeps b.chains w → IsReady w → length w.rows.items ≡ length b.chains.rows.items
    → AfterCall w.first w.moment.0 w.rows.items w.tally.live → DropsEnded (is_live_row w.first w.rows.items w.moment.0) w.tally.live live
    → SameKin w.links.items links.items → vec_len links ≡ vec_len w.links → vec_capacity links ≡ vec_capacity w.links → AllFlexLinked w.moment.0 w.rows.items links.items heads.items → vec_len heads ≡ vec_len b.heads
    → BookInvariant (record {
      chains = record {
        rows = w.rows;
        links = links;
        tally = record { depths = w.tally.depths; deadlines = w.tally.deadlines; gone = w.tally.gone; live = live };
        pending = w.pending;
        moment = w.moment;
        first = w.first;
      };
      heads = heads;
      room = b.room;
    })
walked-book b w links live heads inv k ready long after drops kin links-len links-cap waiting heads-len =
    let is : live.ids.items ≡ live_ids w.first w.moment.0 w.rows.items = drops.ids ∙ after.left in
    record {
      sound = record {
        sound = ready.current.sound.sound;
        gone = ready.current.sound.gone;
        noted = live-noted w.first _ _ live (λ i d lt. (spread-end _ _ _ ready.spreading i d lt).id_is) is;
      };
      spreading = spreading-kin _ _ _ _ kin ready.spreading;
      waiting = waiting;
      idle = ready.idle;
      objects = omega (arith, inv.objects, k.size.objects, heads-len);
      ids = omega (arith, k.first, long, inv.ids);
      small = inv.small;
      room_rows = omega (arith, k.size.len, k.size.capacity, inv.room_rows);
      room_links = omega (arith, ap vec_len k.links, ap vec_capacity k.links, links-len, links-cap, inv.room_links);
      room_deadlines = omega (arith, k.deadlines.left, k.deadlines.capacity, inv.room_deadlines);
      room_pending = omega (arith, k.size.len, k.pending, inv.room_pending);
      room_marks = omega (arith, k.size.gone_same.marks_len, k.size.gone_same.marks_capacity, inv.room_marks);
      live_is = is;
      live_idle = drops.idle;
      room_live = omega (arith, drops.room, ap (λ ids. ids.room) k.size.ids_same, inv.room_live);
      room_gone = omega (arith, k.size.len, k.size.gone_same.capacity, inv.room_gone);
    }
