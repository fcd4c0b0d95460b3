use Rattle.std.proofs.Common.{◌≡◌, ◌++◌, drop}
use Rattle.status_merge.specs.Asking.{asked_by}
use Rattle.status_merge.specs.Selecting.{filtered}
use Rattle.status_merge.proofs.selecting.filter_rows.Given as goal

abbrev pub invariant-loop-object : goal.invariant-loop-object
invariant-loop-object l =
    l.found.items ++ filtered (asked_by l.query) (drop l.object-index l.objects) ≡ filtered (asked_by l.query) l.objects
