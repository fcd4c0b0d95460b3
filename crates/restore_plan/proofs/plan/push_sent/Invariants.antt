use Rattle.std.proofs.Common.{◌≡◌, ◌++◌, length}
use Rattle.std.specs.Prelude.{reverse, filter_map}
use Rattle.restore_plan.specs.Plan.{sent_of}
use Rattle.restore_plan.proofs.plan.push_sent.Given as goal

abbrev pub invariant-loop-fate : goal.invariant-loop-fate
invariant-loop-fate l =
    l.commands.items ++ filter_map sent_of (reverse l.left.items) ≡ l.fn.commands.items ++ filter_map sent_of l.fn.fates.items

abbrev pub decreases-loop-fate : goal.decreases-loop-fate
decreases-loop-fate l = length l.left.items
