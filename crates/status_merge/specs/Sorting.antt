-- The orders in which the selected objects are shown: `IsInOrder`. Own rules.
use Rattle.std.specs.Prelude.{◌≡◌, ℕ, List}
use Rattle.std.specs.declared.cmp.Ordering.{Ordering}
use Rattle.std.specs.Ordering.{nat_cmp}
use Rattle.std.specs.Option.{option_cmp}
use Rattle.std.specs.Cmp.Lexicographic.{slice_cmp}
use Rattle.std.specs.List.Sorted.{IsPermutation, IsSortedByKey, IsStableByKey}
use Rattle.status_merge.specs.declared.gateway.MergedObject.{MergedObject}
use Rattle.status_merge.specs.declared.query.Sort.{Sort}
use Rattle.status_merge.specs.declared.query.Sort.TheVariants.{Worst, Host, Since, Last}

-- the rows that are shown are these rows, none before one of a lesser key, and those of equal keys as they were
pub record IsSortOf {K : Type 0} (key : MergedObject → K) (compare : K → K → Ordering) (rows shown : List MergedObject)
    : Type 0 where
  pub same : IsPermutation rows shown
  pub sorted : IsSortedByKey key compare shown
  pub stable : IsStableByKey key compare rows shown

-- the later of two moments is less
abbrev pub later_first : ℕ → ℕ → Ordering
later_first one other = nat_cmp other one

-- the rows that are shown are these, which are by rank, in an order: as they are; by the bytes of the host's name; by the
-- moment since when they have their state, the latest first; or by the moment of the last result, the earliest first, after
-- those without one
abbrev pub IsInOrder : Sort → List MergedObject → List MergedObject → Type 0
IsInOrder Worst rows shown = shown ≡ rows
IsInOrder Host rows shown = IsSortOf (λ object. object.row.host.now) (slice_cmp nat_cmp) rows shown
IsInOrder Since rows shown = IsSortOf (λ object. object.since.moment) later_first rows shown
IsInOrder Last rows shown = IsSortOf (λ object. object.row.last) (option_cmp nat_cmp) rows shown
