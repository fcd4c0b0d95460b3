use Rattle.std.proofs.Common.{◌-◌, length, take}
use Rattle.httpdate.specs.Date.{date_text}
use Rattle.web_connections.proofs.RefusalSteps.{written}
use Rattle.web_connections.proofs.refusals.guarded.Goals as goal

pub returns : goal.returns
returns c =
    rw (
      c.in_ok-extend_from_slice-3.ensures.items,
      c.in_ok-extend_from_slice-2.ensures.items,
      c.to_bytes.ensures,
      c.in_ok-extend_from_slice.ensures.items,
      c.in_ok-text.ensures.items,
      c.saturating_sub-head.ensures,
    ) (written (take (length c.args.refusal.now - 2) c.args.refusal.now) _ (date_text c.args.date))
