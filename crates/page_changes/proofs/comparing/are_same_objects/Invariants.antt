use Rattle.std.proofs.Common.{◌≡◌, drop}
use Rattle.page_changes.specs.Changes.{are_same_objects}
use Rattle.page_changes.proofs.comparing.are_same_objects.Given as goal

abbrev pub invariant-loop-index : goal.invariant-loop-index
invariant-loop-index l = are_same_objects (drop l.index l.before) (drop l.index l.after) ≡ are_same_objects l.before l.after
