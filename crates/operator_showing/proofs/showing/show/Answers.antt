use Rattle.std.proofs.Common.{refl}
use Rattle.operator_showing.proofs.showing.show.Goals as goal

pub returns-clause-shown : goal.returns-clause-shown
returns-clause-shown g c = (refl, record { page = c.in_ok-_page._page; is_page = c.in_ok-_page.ensures; printed = c.in_ok-print.ensures.ok })
