use Rattle.std.proofs.Common.{◌≡◌, ◌++◌, drop}
use Rattle.std.specs.List.{flat_map}
use Rattle.status_merge.specs.Asking.{asked_by}
use Rattle.status_merge.specs.Selecting.{of_rank}
use Rattle.status_merge.proofs.selecting.add_ranks.Given as goal

abbrev pub invariant-loop-urgency : goal.invariant-loop-urgency
invariant-loop-urgency l =
    l.selected.items ++ flat_map (of_rank (asked_by l.query) l.objects) (drop l.urgency-index l.ranks)
    ≡ l.fn.selected.items ++ flat_map (of_rank (asked_by l.query) l.objects) l.ranks
