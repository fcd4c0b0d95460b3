use Rattle.std.proofs.Common.{arith, refl}
use Rattle.std.proofs.lemmas.List.Elements.{All-from_get_or}
use Rattle.percent_encoding.proofs.PercentLemmas.{IsByte}
use Rattle.status_view.specs.Links.{object_link, object_query_at, object_link_at}
use Rattle.status_view.proofs.LinkLaws.{link_read_at}
use Rattle.status_view.proofs.links.object_link_at.Goals as goal

pub returns-clause-link : goal.returns-clause-link
unfolding object_link object_query_at object_link_at
returns-clause-link c =
    rw (
      c.in_ok-push_value.ensures,
      c.in_ok-push_str.ensures.bytes,
      c.in_ok-link.ensures.link,
      c.as_bytes.ensures.value,
    ) refl

pub returns-clause-read : goal.returns-clause-read
returns-clause-read c =
    link_read_at c.args.host.now c.args.service.now c.args.gateway.now
    (All-from_get_or IsByte c.args.host.now 0 (λ i within. omega (arith, c.type_inv.host i)))
    (All-from_get_or IsByte c.args.service.now 0 (λ i within. omega (arith, c.type_inv.service i)))
    (All-from_get_or IsByte c.args.gateway.now 0 (λ i within. omega (arith, c.type_inv.gateway i)))
