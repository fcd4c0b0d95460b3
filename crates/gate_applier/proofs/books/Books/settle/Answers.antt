use Rattle.std.proofs.Common.{rules, ap, arith}
use Rattle.gate_model.specs.Downtime.{is_live_in}
use Rattle.gate_downtime.specs.Book.{DowntimeView, next_id}
use Rattle.gate_applier.proofs.BookSteps.{follow-settled, room-filtered}
use Rattle.gate_applier.proofs.books.Books.settle.Goals as goal

pub drop_downtimes-requires-clause-answered : goal.drop_downtimes-requires-clause-answered
drop_downtimes-requires-clause-answered c =
    let now = c.drain_gone.new.downtime in
    (is_live_in now.entries now.moment.0, λ id answer within met. search rules)

pub returns-then-drain_gone-clause-stand : goal.returns-then-drain_gone-clause-stand
returns-then-drain_gone-clause-stand c = λ events moment follow.
    let now = c.drain_gone.new.downtime in
    record {
      follow =
          follow-settled events moment c.args.self.now now c.drop_downtimes.new.self c.drain_gone.ensures.returned c.drain_gone.ensures.settled
          (c.drop_downtimes.ensures.comments (is_live_in now.entries now.moment.0) (λ id answer within met. search rules)) c.drop_downtimes.ensures.next_id follow;
      settled = c.drain_gone.ensures.settled;
    }

pub returns-then-drain_gone-clause-room : goal.returns-then-drain_gone-clause-room
returns-then-drain_gone-clause-room c =
    let now = c.drain_gone.new.downtime in
    let same = c.drain_gone.ensures.returned.same in
    record {
      comments = room-filtered _ c.args.self.now.comments c.drop_downtimes.new.self (c.drop_downtimes.ensures.comments (is_live_in now.entries now.moment.0) (λ id answer within met. search rules)) c.drop_downtimes.ensures.room;
      entries = omega (arith, ap (λ (view : DowntimeView). view.room) same);
      next_comment = c.drop_downtimes.ensures.next_id;
      next_entry = ap next_id same;
    }
