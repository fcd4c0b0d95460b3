use Rattle.std.proofs.Common.{sym, ◌∙◌}
use Rattle.gate_applier.proofs.BookSteps.{returns-next, fewer-next}
use Rattle.gate_applier.proofs.books.drain_gone.Goals as goal

pub gone-smaller : goal.gone-smaller
gone-smaller c =
    rw c.next_gone.ensures.same
    (fewer-next c.next_gone.result c.gone.downtime c.next_gone.new.self (sym c.is_some.ensures ∙ c.gone-test.true)
    (sym c.next_gone.ensures.answer) c.next_gone.ensures.returned)

pub gone-preserved : goal.gone-preserved
gone-preserved c = record {
  returned = returns-next c.next_gone.result _ c.gone.downtime c.next_gone.new.self (sym c.is_some.ensures ∙ c.gone-test.true)
      c.gone.invariant.returned (sym c.next_gone.ensures.answer) c.next_gone.ensures.returned c.next_gone.ensures.same;
  none = λ e. cc;
}
