use Rattle.std.proofs.Common.{ap, ◌∙◌}
use Rattle.web_connections.specs.Refusals.{guarded}
use Rattle.web_connections.proofs.browser.take_refusal.Goals as goal

pub returns : goal.returns
returns g c =
    let date = c.in_ok-date.date in (
      date,
      c.in_ok-from_vec.ensures.ok
          ∙ c.in_ok-guarded.ensures
          ∙ ap (guarded date) (c.as_slice.ensures.value ∙ c.in_ok-text.ensures),
    )
