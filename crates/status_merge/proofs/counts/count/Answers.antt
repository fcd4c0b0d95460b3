use Rattle.std.proofs.Common.{refl}
use Rattle.status_merge.proofs.counts.count.Goals as goal

pub returns : goal.returns
returns c =
    rw (
      c.hosts_in.ensures,
      c.hosts_in-2.ensures,
      c.hosts_in-3.ensures,
      c.hosts_in-4.ensures,
      c.services_in.ensures,
      c.services_in-2.ensures,
      c.services_in-3.ensures,
      c.services_in-4.ensures,
      c.services_in-5.ensures,
      c.stale_in.ensures,
      c.unhandled_in.ensures,
      c.acknowledged_in.ensures,
      c.downtimes_in.ensures,
    )
    refl
