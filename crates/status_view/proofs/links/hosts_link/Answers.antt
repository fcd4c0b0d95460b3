use Rattle.std.proofs.Common.{arith, refl}
use Rattle.std.proofs.lemmas.List.Elements.{All-from_get_or}
use Rattle.percent_encoding.proofs.PercentLemmas.{IsByte}
use Rattle.status_view.specs.Links.{hosts_query, hosts_link}
use Rattle.status_view.proofs.QueryLaws.{hosts_read}
use Rattle.status_view.proofs.links.hosts_link.Goals as goal

pub returns-clause-link : goal.returns-clause-link
unfolding hosts_link hosts_query
returns-clause-link c = rw (c.in_ok-push_value.ensures, c.in_ok-link.ensures.ok) refl

pub returns-clause-read : goal.returns-clause-read
returns-clause-read c =
    hosts_read c.args.host.now (All-from_get_or IsByte c.args.host.now 0 (λ i within. omega (arith, c.type_inv.host i)))
