use Rattle.std.proofs.Common.{◌≡◌, ◌+◌, ◌++◌, length}
use Rattle.std.specs.Prelude.{reverse}
use Rattle.restore_plan.specs.Rehearsal.{records_from}
use Rattle.restore_plan.proofs.rehearsal.records_of.Given as goal

abbrev pub invariant-loop-body : goal.invariant-loop-body
invariant-loop-body l =
    l.records.items ++ records_from l.now (length l.records.items + 1) (reverse l.left.items) ≡ records_from l.now 1 l.fn.commands.items

abbrev pub decreases-loop-body : goal.decreases-loop-body
decreases-loop-body l = length l.left.items
