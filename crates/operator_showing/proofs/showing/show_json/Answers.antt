use Rattle.std.proofs.Common.{refl}
use Rattle.operator_showing.proofs.showing.show_json.Goals as goal

pub returns-clause-shown : goal.returns-clause-shown
returns-clause-shown g c = (
  refl,
  record {
    page = c.in_ok-page.page;
    is_page = c.in_ok-page.ensures;
    gateway = c.alone.result;
    alone = c.alone.ensures;
    printed = rw (c.as_slice.ensures.value, c.in_ok-line.ensures) at c.in_ok-print.ensures.ok;
  },
)
