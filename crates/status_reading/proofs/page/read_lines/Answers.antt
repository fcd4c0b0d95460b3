use Rattle.std.proofs.Common.{◌+◌, sym, subst, arith}
use Rattle.status_reading.specs.Rows.{PageView, page_view}
use Rattle.status_reading.specs.inner.Rows.{row_view}
use Rattle.status_reading.proofs.PageSteps.{IsSoFar, first_so_far, more_so_far}
use Rattle.status_reading.proofs.FaultSteps.{first_bad, some_left, all_read}
use Rattle.status_reading.proofs.page.read_lines.Goals as goal

pub loop-rest-init : goal.loop-rest-init
loop-rest-init c =
    rw (c.new.ensures.items, c.new-2.ensures.items, c.new-3.ensures.items)
    (first_so_far c.args.text.now c.in-Some.moment c.in-Some.lines.now c.in-Some.ensures.0 c.in-Some.ensures.1)

pub overflow_add-number : goal.overflow_add-number
overflow_add-number c = omega (arith, c.loop-rest.invariant.room)

pub returns-in_default-next_row : goal.returns-in_default-next_row
returns-in_default-next_row c =
    first_bad c.args.text.now (page_view c.loop-rest.page) c.loop-rest.rest.now c.loop-rest.number c.loop-rest.invariant
    (some_left c.loop-rest.rest.now c.loop-rest-test.ensures) c.in_default-next_row.ensures.next

pub loop-rest-preserved : goal.loop-rest-preserved
loop-rest-preserved c =
    subst (λ (page : PageView). IsSoFar c.args.text.now page c.in-Some-next_row.after.now (c.loop-rest.number + 1)) (sym c.in_ok-push.ensures.ok)
    (more_so_far c.args.text.now (page_view c.loop-rest.page) c.loop-rest.rest.now c.loop-rest.number (row_view c.in-Some-next_row.next) c.in-Some-next_row.after.now
    c.loop-rest.invariant c.in-Some-next_row.ensures.next.0 c.in-Some-next_row.ensures.next.1 c.in-Some-next_row.ensures.next.2)

pub returns : goal.returns
returns c =
    all_read c.args.text.now (page_view c.loop-rest.page) c.loop-rest.rest.now c.loop-rest.number c.loop-rest.invariant c.loop-rest-test.ensures
