use Rattle.std.proofs.Common.{◌≡◌, ◌++◌, map}
use Rattle.status_memory.specs.History.{change_view}
use Rattle.status_memory.proofs.history.all_again.Given as goal

abbrev pub invariant-loop-change : goal.invariant-loop-change
invariant-loop-change l = map change_view l.changes.items ++ map change_view l.change-iterator ≡ map change_view l.kept.items
