use Rattle.std.proofs.Common.{rules}
use Rattle.std.proofs.lemmas.List.Sorted.{IsNonDecreasingBy-from_sort_by_key}
use Rattle.status_serving.specs.Changing.{moment_of}
use Rattle.status_serving.proofs.ChangingSteps.{backwards}
use Rattle.status_serving.proofs.changing.changes_of.Goals as goal

pub returns : goal.returns
returns c =
    backwards c.args.seen.now _ _ _ c.in_ok-changes.ensures c.in_ok-sort_by_key.ensures.permutation
    (IsNonDecreasingBy-from_sort_by_key moment_of _ c.in_ok-sort_by_key.ensures.sorted (λ a r q k. search rules))
    c.reverse.ensures.items
