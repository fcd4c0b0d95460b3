use Rattle.std.proofs.Common.{refl, arith}
use Rattle.gate_model.specs.declared.comments.CommentEvent.TheVariants.{Clear}
use Rattle.gate_model.proofs.CommentSteps.{comments_of-clear}
use Rattle.gate_applier.proofs.BookSteps.{follow-remove, room-filtered}
use Rattle.gate_applier.proofs.books.Books.take_clearing.Goals as goal

pub returns-then-cleared-clause-follow : goal.returns-then-cleared-clause-follow
returns-then-cleared-clause-follow c = λ moment events follow.
    rw c.if-cleared.true
    (follow-remove events (Clear c.args.object.place) moment c.args.self.now c.clear_ack.new.self (comments_of-clear 1 c.args.object.place events.comments) refl c.clear_ack.ensures.comments c.clear_ack.ensures.next_id follow)

pub returns-then-cleared-clause-room : goal.returns-then-cleared-clause-room
returns-then-cleared-clause-room c = record {
  comments = room-filtered _ c.args.self.now.comments c.clear_ack.new.self c.clear_ack.ensures.comments c.clear_ack.ensures.room;
  entries = omega arith;
  next_comment = c.clear_ack.ensures.next_id;
  next_entry = refl;
}
