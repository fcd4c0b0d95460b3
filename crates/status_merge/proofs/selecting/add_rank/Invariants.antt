use Rattle.std.proofs.Common.{◌≡◌, ◌++◌, drop}
use Rattle.status_merge.specs.Asking.{asked_by}
use Rattle.status_merge.specs.Selecting.{of_rank}
use Rattle.status_merge.proofs.selecting.add_rank.Given as goal

abbrev pub invariant-loop-object : goal.invariant-loop-object
invariant-loop-object l =
    l.selected.items ++ of_rank (asked_by l.query) (drop l.object-index l.objects) l.urgency
    ≡ l.fn.selected.items ++ of_rank (asked_by l.query) l.objects l.urgency
