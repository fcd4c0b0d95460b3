use Rattle.std.proofs.Common.{arith}
use Rattle.std.proofs.lemmas.List.Elements.{All-from_get_or}
use Rattle.percent_encoding.proofs.PercentLemmas.{IsByte}
use Rattle.status_view.proofs.links.push_pair.Goals as goal

pub returns-clause-texts : goal.returns-clause-texts
returns-clause-texts c = (
  (All-from_get_or IsByte c.args.name.now 0 (λ i within. omega (arith, c.type_inv.name i)), c.utf8.name),
  (All-from_get_or IsByte c.args.value.now 0 (λ i within. omega (arith, c.type_inv.value i)), c.utf8.value),
)
