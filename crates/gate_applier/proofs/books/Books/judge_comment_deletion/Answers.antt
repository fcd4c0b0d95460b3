use Rattle.std.proofs.Common.{Result, Err, sym, ap, ◌∙◌}
use Rattle.gate_comments.specs.declared.faults.DeleteFault.{DeleteFault}
use Rattle.gate_comments.specs.declared.faults.DeleteFault.TheVariants.{NoSuchComment, WrongKind}
use Rattle.gate_applier.proofs.BookSteps.{takes-filtered}
use Rattle.gate_applier.proofs.JudgeSteps.{judged-deletion, judged-no_deletion}
use Rattle.gate_applier.proofs.books.Books.judge_comment_deletion.Goals as goal

abbrev refusal : DeleteFault → Result (Unit {0}) DeleteFault
refusal fault = Err fault

pub returns-in-Ok-clause-judged : goal.returns-in-Ok-clause-judged
returns-in-Ok-clause-judged c = λ table moment log_index before stand.
    judged-deletion table before moment log_index c.args.kind c.args.id c.args.self.now c.delete.new.self (sym c.in-Ok.is ∙ c.delete.ensures.answer) c.in-Ok.ensures.comments c.delete.ensures.next_id stand

pub returns-in-Err-NoSuchComment-clause-judged : goal.returns-in-Err-NoSuchComment-clause-judged
returns-in-Err-NoSuchComment-clause-judged c = λ table moment log_index before stand.
    rw c.in-Err-NoSuchComment.ensures.err
    (judged-no_deletion table before moment log_index c.args.kind c.args.id c.args.self.now NoSuchComment (ap refusal (sym c.in-Err-NoSuchComment.field-0-is) ∙ sym c.in-Err-NoSuchComment.is ∙ c.delete.ensures.answer) stand)

pub returns-in-Err-WrongKind-clause-judged : goal.returns-in-Err-WrongKind-clause-judged
returns-in-Err-WrongKind-clause-judged c = λ table moment log_index before stand.
    rw c.in-Err-WrongKind.ensures.err
    (judged-no_deletion table before moment log_index c.args.kind c.args.id c.args.self.now WrongKind (ap refusal (sym c.in-Err-WrongKind.field-0-is) ∙ sym c.in-Err-WrongKind.is ∙ c.delete.ensures.answer) stand)

pub returns-in-Ok-clause-takes : goal.returns-in-Ok-clause-takes
returns-in-Ok-clause-takes c = takes-filtered c.args.self.now _ c.delete.new.self c.in-Ok.ensures.comments c.delete.ensures.room
