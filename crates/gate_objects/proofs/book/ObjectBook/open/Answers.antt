use Rattle.std.proofs.Common.{◌∙◌, ap, length}
use Rattle.gate_objects.proofs.OpeningSteps.{stands-opened, placed-opened, length-new_statuses}
use Rattle.gate_objects.proofs.book.ObjectBook.open.Goals as goal

pub invariant_of-result : goal.invariant_of-result
invariant_of-result c = rw c.in_ok-statuses.ensures (placed-opened c.args.table.now)

pub returns-clause-stands : goal.returns-clause-stands
returns-clause-stands c = rw c.in_ok-statuses.ensures (stands-opened c.args.opening c.args.table.now)

pub returns-clause-count : goal.returns-clause-count
returns-clause-count c = ap length c.in_ok-statuses.ensures ∙ length-new_statuses 0 c.args.table.now
