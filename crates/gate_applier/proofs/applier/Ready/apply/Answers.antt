-- One more record keeps the applier sound.
use Rattle.std.proofs.Common.{◌≡◌, ◌≤◌, ℕ, Bool, true, false, ◌&&◌, max, length, refl, sym, ap, ◌∙◌, arith, rules}
use Rattle.std.specs.Prelude.{IsTrue, nat_le}
use Rattle.std.proofs.lemmas.Bool.{leb-true}
use Rattle.gate_applier.specs.Applier.{is_limit}
use Rattle.gate_model.specs.declared.record.Moment.{Moment}
use Rattle.gate_model.specs.declared.record.Record.{Record}
use Rattle.gate_model.specs.Record.{later}
use Rattle.gate_model.specs.Act.{act_of}
use Rattle.gate_model.specs.Meaning.{history_of, outcome_at}
use Rattle.gate_model.proofs.MeaningSteps.{history_of-append, outcomes_of-append, length-history_of}
use Rattle.gate_model.proofs.OrderSteps.{in_order-apply}
use Rattle.gate_applier.specs.declared.applier.Applier.TheInside.{Inside}
use Rattle.gate_applier.specs.inner.Applier.{room_of}
use Rattle.gate_applier.specs.declared.books.Books.{Books}
use Rattle.gate_applier.specs.inner.Books.{Events, KeepsRoom, room_of_books, BooksStand, events_of, IsJudged}
use Rattle.gate_applier.proofs.RoomSteps.{modest-pushed}
use Rattle.gate_applier.proofs.BookSteps.{table-trans, is-of-table}
use Rattle.gate_applier.proofs.JudgeSteps.{judged-next}
use Rattle.gate_applier.proofs.CountSteps.{can-take, room-kept, room-less}
use Rattle.gate_applier.proofs.applier.Ready.apply.Goals as goal
use Rattle.gate_applier.proofs.applier.Ready.apply.Goals.{After-push_reserved-2}

later-again : (moment now : Moment) → later moment (later moment now) ≡ later moment now
later-again moment now = ap (λ (n : ℕ). let at : Moment = record { 0 = n } in at) (let same : max moment.0 (max moment.0 now.0) ≡ max moment.0 now.0 = omega arith in same)

at-most : (low high : Bool) → IsTrue (low && high) → high ≡ true
at-most true true e = refl
at-most true false e = absurd cc
at-most false high e = absurd cc

limited-few : (limit : ℕ) → IsTrue (is_limit limit) → limit ≤ 1000000
limited-few limit e = leb-true limit 1000000 (at-most (nat_le 1 limit) (nat_le limit 1000000) e)

-- the books stand at the record's moment, before it is judged
come : (events : Events) (moment now at : Moment) (old new : Books) → at ≡ later moment now
    → ((all : Events) (before : Moment) → BooksStand all before old → BooksStand all (later before at) new)
    → BooksStand events moment old → BooksStand events at new
come events moment now at old new is advances stand =
    rw is (rw (later-again moment now) at (rw is at (advances events moment stand)))

has-room : (was : Inside) (new : Books) → 1 ≤ room_of was → KeepsRoom was.books new → new.per_record ≡ was.books.per_record → 1 ≤ was.books.per_record → 1 ≤ room_of_books new
has-room was new room keeps same one =
    rw same
    (omega (
      arith,
      room,
      room-kept was.books.comments.room new.comments.room was.books.per_record one keeps.comments,
      room-kept was.books.downtime.room new.downtime.room was.books.per_record one keeps.entries,
    ))

pub judge-judged-requires : goal.judge-judged-requires
judge-judged-requires c =
    let was = c.applier.inside in
    let few : length (history_of was.table was.records.items) ≤ 1000000 = omega (arith, length-history_of was.table was.records.items, c.applier.invariant.few, limited-few was.limit c.applier.invariant.limited) in
    record {
      can_take =
          can-take was.table was.opening c.later-moment.result (history_of was.table was.records.items) c.advance.new.self
          (is-of-table was.table was.opening was.books c.advance.new.self c.applier.invariant.of_table c.advance.ensures.table)
          (come (events_of was.table (history_of was.table was.records.items)) was.moment c.args.now c.later-moment.result was.books c.advance.new.self c.later-moment.ensures c.advance.ensures.stand c.applier.invariant.books_stand).follow (has-room was c.advance.new.self (rw (← c.applier.view_is) at c.self.invariant) c.advance.ensures.room c.advance.ensures.table.per_record (omega (arith, c.applier.invariant.of_table.per_record_is))) few;
    }

-- the record, judged after those before it
next : (c : After-push_reserved-2)
    → IsJudged c.applier.inside.table (history_of c.applier.inside.table c.applier.inside.records.items) c.later-moment.result (length (history_of c.applier.inside.table c.applier.inside.records.items)) (act_of c.args.item.body) c.outcome_of-outcome.result c.judge-judged.new.self
next c =
    let was = c.applier.inside in
    let before = history_of was.table was.records.items in
    rw (c.outcome_of-outcome.ensures, length-history_of was.table was.records.items, ← was.records.ok.0) (rw c.len-log_index.ensures at (c.judge-judged.ensures.judged before
    (come (events_of was.table before) was.moment c.args.now c.later-moment.result was.books c.advance.new.self c.later-moment.ensures c.advance.ensures.stand c.applier.invariant.books_stand)))

pub invariant_of-applier : goal.invariant_of-applier
invariant_of-applier c =
    let was = c.applier.inside in
    let sound = c.applier.invariant in
    let applied : Record = record { moment = c.later-moment.result; item = c.args.item } in
    let before = history_of was.table was.records.items in
    let judged = next c in
    record {
      limited = sound.limited;
      few = omega (arith, sound.records_modest.within_limit, c.self.invariant);
      in_order =
          rw c.push_reserved.ensures.items
          (in_order-apply was.opening was.records.items was.moment c.args.now applied c.later-moment.ensures sound.in_order);
      outcomes_are =
          rw (c.push_reserved.ensures.items, c.push_reserved-2.ensures.items, sound.outcomes_are, judged.outcome_is)
          (sym (outcomes_of-append was.table was.records.items applied));
      of_table =
          is-of-table was.table was.opening was.books c.settle.new.self sound.of_table
          (table-trans was.books c.advance.new.self c.settle.new.self c.advance.ensures.table
          (table-trans c.advance.new.self c.judge-judged.new.self c.settle.new.self c.judge-judged.ensures.takes.table c.settle.ensures.table));
      books_stand =
          rw (c.push_reserved.ensures.items, history_of-append was.table was.records.items applied)
          (c.settle.ensures.stand _ c.later-moment.result (judged-next was.table before applied c.outcome_of-outcome.result c.judge-judged.new.self judged.outcome_is judged.follow));
      records_modest =
          rw (c.push_reserved.ensures.len, c.push_reserved.ensures.capacity) (modest-pushed was.limit _ _ sound.records_modest);
      outcomes_modest =
          rw (c.push_reserved-2.ensures.len, c.push_reserved-2.ensures.capacity) (modest-pushed was.limit _ _ sound.outcomes_modest);
    }

pub returns : goal.returns
returns c =
    let was = c.applier.inside.books in
    let now = c.settle.new.self in
    let one : 1 ≤ was.per_record = omega (arith, c.applier.invariant.of_table.per_record_is) in
    let judged : c.advance.new.self.per_record ≡ was.per_record = c.advance.ensures.table.per_record in
    let taken = rw judged at c.judge-judged.ensures.takes in
    record {
      outcome_is =
          rw (← c.self.view_is, ← c.applier.view_is)
          ((next c).outcome_is ∙ ap (λ (at : Moment). outcome_at c.applier.inside.table (history_of c.applier.inside.table c.applier.inside.records.items) at (act_of c.args.item.body)) c.later-moment.ensures);
      records = search rules;
      outcomes = search rules;
      moment = search rules;
      room =
          rw (← c.self.view_is, ← c.applier.view_is, c.settle.ensures.table.per_record, c.judge-judged.ensures.takes.table.per_record, judged)
          (omega (
            arith,
            c.push_reserved.ensures.len,
            c.push_reserved.ensures.capacity,
            c.push_reserved-2.ensures.len,
            c.push_reserved-2.ensures.capacity,
            room-less was.comments.room now.comments.room was.per_record one (omega (arith, c.advance.ensures.room.comments, taken.comments, c.settle.ensures.room.comments)),
            room-less was.downtime.room now.downtime.room was.per_record one (omega (arith, c.advance.ensures.room.entries, taken.entries, c.settle.ensures.room.entries)),
          ));
      table = search rules;
      opening = search rules;
      limit = search rules;
    }
