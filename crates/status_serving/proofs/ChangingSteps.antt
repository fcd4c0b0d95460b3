-- The changes of gateways in the order of their moments, read backwards.
use Rattle.std.proofs.Common.{◌≡◌, ℕ, List, map, reverse, ap, sym, subst, ◌∙◌}
use Rattle.std.specs.List.{flat_map}
use Rattle.std.specs.List.Sorted.{IsPermutation, IsNonDecreasingBy}
use Rattle.std.proofs.lemmas.List.{reverse-reverse}
use Rattle.std.proofs.lemmas.List.Sorted.{IsPermutation-map, IsPermutation-reverse, IsPermutation-trans}
use Rattle.status_memory.specs.declared.history.GatewayChange.{GatewayChange}
use Rattle.status_memory.specs.History.{ChangeView}
use Rattle.page_watching.specs.declared.watching.Seen.{Seen}
use Rattle.status_serving.specs.Changing.{named, changes_on, moment_of, AreChanges}

pub backwards : (seen : List Seen) (found sorted shown : List GatewayChange) → map named found ≡ flat_map changes_on seen
    → IsPermutation found sorted → IsNonDecreasingBy moment_of sorted → shown ≡ reverse sorted → AreChanges seen shown
backwards seen found sorted shown same moves rises is = record {
  all = subst (λ (all : List (List ℕ × ChangeView)). IsPermutation all (map named shown)) same
      (IsPermutation-map named found shown
      (subst (IsPermutation found) (sym is)
      (IsPermutation-trans found sorted (reverse sorted) moves (IsPermutation-reverse sorted))));
  newest_first = subst (IsNonDecreasingBy moment_of) (sym (ap reverse is ∙ reverse-reverse sorted)) rises;
}
