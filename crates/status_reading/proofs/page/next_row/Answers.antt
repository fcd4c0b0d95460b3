use Rattle.std.proofs.Common.{inr, sym, ◌∙◌}
use Rattle.status_reading.specs.Rows.{page_view}
use Rattle.status_reading.specs.inner.Rows.{row_view}
use Rattle.status_reading.proofs.FaultSteps.{same_go}
use Rattle.status_reading.proofs.page.next_row.Goals as goal

pub returns-in_err-next-clause-next : goal.returns-in_err-next-clause-next
returns-in_err-next-clause-next c =
    rw c.from_residual-in_err-next.ensures
    (inr (record {
      line = c.in_ok-line.line.now;
      rest = c.in_ok-line.rest.now;
      whole = c.in_ok-line.ensures.parts.0;
      one_line = c.in_ok-line.ensures.parts.1;
      none = λ row readable is. absurd (c.in_err-next.ensures row readable is);
    }))

pub returns-else-may_go_on-clause-next : goal.returns-else-may_go_on-clause-next
returns-else-may_go_on-clause-next c =
    inr (record {
      line = c.in_ok-line.line.now;
      rest = c.in_ok-line.rest.now;
      whole = c.in_ok-line.ensures.parts.0;
      one_line = c.in_ok-line.ensures.parts.1;
      none = λ row readable is.
          same_go (page_view c.args.page.now) row (row_view c.in_ok-next.next) c.in_ok-line.line.now is c.in_ok-next.ensures.0 (sym c.may_go_on.ensures ∙ c.if-may_go_on.false);
    })
