use Rattle.std.proofs.Common.{◌≡◌, ◌++◌, map, filter}
use Rattle.std.specs.Vec.Iter.{into_iter_items}
use Rattle.status_merge.specs.Groups.{groups}
use Rattle.status_merge.specs.inner.Views.{group_view}
use Rattle.status_merge.proofs.groups.grouped.Given as goal

abbrev pub invariant-loop-first : goal.invariant-loop-first
invariant-loop-first g l =
    map group_view l.found.items
    ++ map (λ first. (first, filter (λ row. g.R.Key.PartialEq.eq (g.R.Keyed.key_of row) (g.R.Keyed.key_of first)) l.rows)) (into_iter_items l.first-iterator)
    ≡ groups (λ one other. g.R.Key.PartialEq.eq (g.R.Keyed.key_of one) (g.R.Keyed.key_of other)) l.rows
