use Rattle.std.proofs.Common.{rules}
use Rattle.std.proofs.lemmas.List.Sorted.{answers_always}
use Rattle.status_merge.proofs.sorting.sort_by_since.Goals as goal

pub returns : goal.returns
returns c = record {
  same = c.in_ok-sort_by_key.ensures.permutation;
  sorted = c.in_ok-sort_by_key.ensures.sorted (λ object. record { 0 = object.since.moment }) (answers_always _ _ _ (λ f a r g h. search rules));
  stable = c.in_ok-sort_by_key.ensures.stable (λ object. record { 0 = object.since.moment }) (answers_always _ _ _ (λ f a r g h. search rules));
}
