use Rattle.std.proofs.Common.{◌≡◌, ◌++◌, drop}
use Rattle.std.specs.Prelude.{filter_map}
use Rattle.restore_plan.specs.Entries.{entry_fate}
use Rattle.restore_plan.proofs.entries.push_entries.Given as goal

abbrev pub invariant-loop-renewal : goal.invariant-loop-renewal
invariant-loop-renewal l =
    l.fates.items ++ filter_map (entry_fate l.kept) (drop l.renewal-index l.renewals)
    ≡ l.fn.fates.items ++ filter_map (entry_fate l.kept) l.renewals
