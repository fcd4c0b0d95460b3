use Rattle.std.proofs.Common.{sym, ◌∙◌}
use Rattle.gate_applier.specs.inner.Books.{events_of}
use Rattle.gate_applier.proofs.JudgeSteps.{judged-cancellation}
use Rattle.gate_applier.proofs.books.Books.judge_downtime_deletion.Goals as goal

pub returns-in-Ok-clause-judged : goal.returns-in-Ok-clause-judged
returns-in-Ok-clause-judged c = λ table moment log_index before stand.
    judged-cancellation table before moment log_index c.args.kind c.args.id c.args.self.now c.cancel.new.self (sym c.in-Ok.is ∙ c.cancel.ensures.answer) c.in-Ok.ensures.value
    (λ stands. c.in-Ok.ensures.stands 1 (events_of table before).downtimes moment stands) stand
