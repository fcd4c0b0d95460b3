use Rattle.std.proofs.Common.{arith, append_assoc}
use Rattle.std.proofs.lemmas.List.Elements.{All-from_get_or}
use Rattle.percent_encoding.proofs.PercentLemmas.{IsByte}
use Rattle.status_view.specs.Links.{object_link, object_query}
use Rattle.status_view.proofs.LinkLaws.{link_read}
use Rattle.status_view.proofs.links.object_link.Goals as goal

pub returns-clause-link : goal.returns-clause-link
unfolding object_link object_query
returns-clause-link c =
    rw (
      c.in_ok-push_value-2.ensures,
      c.in_ok-push_str.ensures.bytes,
      c.in_ok-push_value.ensures,
      c.in_ok-link.ensures.ok,
    ) (simp append_assoc)

pub returns-clause-read : goal.returns-clause-read
returns-clause-read c =
    link_read c.args.host.now c.args.service.now
    (All-from_get_or IsByte c.args.host.now 0 (λ i within. omega (arith, c.type_inv.host i)))
    (All-from_get_or IsByte c.args.service.now 0 (λ i within. omega (arith, c.type_inv.service i)))
