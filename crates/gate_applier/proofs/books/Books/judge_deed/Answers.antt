use Rattle.std.proofs.Common.{rules, ◌≡◌, refl, arith}
use mir.Syntax.{w16}
use mir.Val.{to_z, of_z}
use Rattle.gate_objects.specs.ObjectStatus.{switched}
use Rattle.gate_applier.specs.inner.Books.{events_of}
use Rattle.gate_applier.proofs.BookSteps.{table-row, takes-filtered}
use Rattle.gate_applier.proofs.JudgeSteps.{done-result, done-comment, done-deletion_of_all, done-schedule}
use Rattle.gate_applier.proofs.books.Books.judge_deed.Goals as goal

pub returns-in-Result-clause-done : goal.returns-in-Result-clause-done
returns-in-Result-clause-done c = λ table before stand.
    let code : to_z w16 (of_z w16 c.in-Result.code) ≡ c.in-Result.code = search rules in
    rw c.in-Result.is
    (done-result table before c.args.moment c.args.log_index c.in-Result.code c.args.object c.take_result.result c.args.self.now c.take_result.new.self
    (c.take_result.ensures.accepted (events_of table before) stand.follow)
    (rw code at c.take_result.ensures.follow)
    c.take_result.ensures.refused c.take_result.ensures.kept stand.follow)

pub returns-in-AddComment-clause-done : goal.returns-in-AddComment-clause-done
returns-in-AddComment-clause-done c = λ table before stand.
    rw c.in-AddComment.is
    (done-comment table before c.args.moment c.args.log_index c.in-AddComment.persistent c.args.object c.add_comment.new.self
    (c.add_comment.ensures.follow c.args.moment (record { scheduled = refl; unreturned = refl }) (events_of table before) stand.follow))

pub returns-in-DelAllComments-clause-done : goal.returns-in-DelAllComments-clause-done
returns-in-DelAllComments-clause-done c = λ table before stand.
    rw c.in-DelAllComments.is
    (done-deletion_of_all table before c.args.moment c.args.log_index c.args.object c.args.self.now c.delete_all.new.self c.delete_all.ensures.comments c.delete_all.ensures.next_id stand.follow)

pub returns-in-DelAllComments-clause-takes : goal.returns-in-DelAllComments-clause-takes
returns-in-DelAllComments-clause-takes c = takes-filtered c.args.self.now _ c.delete_all.new.self c.delete_all.ensures.comments c.delete_all.ensures.room

pub returns-in-Acknowledge-clause-done : goal.returns-in-Acknowledge-clause-done
returns-in-Acknowledge-clause-done c = λ table before stand. rw c.in-Acknowledge.is (c.acknowledge.ensures.done c.args.moment table before stand)

pub returns-in-RemoveAck-clause-done : goal.returns-in-RemoveAck-clause-done
returns-in-RemoveAck-clause-done c = λ table before stand. rw c.in-RemoveAck.is (c.remove_ack.ensures.done c.args.moment c.args.log_index table before stand)

pub returns-in-Schedule-clause-done : goal.returns-in-Schedule-clause-done
returns-in-Schedule-clause-done c = λ table before stand.
    rw c.in-Schedule.is
    (done-schedule table before c.args.moment c.args.log_index c.in-Schedule.span c.args.object c.schedule_entry.result c.args.self.now c.schedule_entry.new.self
    (rw c.plan_of.ensures at c.schedule_entry.ensures.answer)
    (rw c.plan_of.ensures at c.schedule_entry.ensures.schedules)
    c.schedule_entry.ensures.refused c.schedule_entry.ensures.kept stand.follow)

pub returns-in-Passive-clause-takes : goal.returns-in-Passive-clause-takes
returns-in-Passive-clause-takes c = record {
  table = table-row (switched c.in-Passive.on) c.args.object.place c.args.self.now _ (λ one. refl) c.set_passive.ensures.book c.set_passive.ensures.count refl refl;
  comments = omega arith;
  entries = omega arith;
}
