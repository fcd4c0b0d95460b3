use Rattle.std.proofs.Common.{◌≡◌, ◌++◌}
use Rattle.restore_plan.specs.Entries.{renewals_from, renewals_of}
use Rattle.restore_plan.proofs.entries.renewals_of.Given as goal

abbrev pub invariant-loop-entry : goal.invariant-loop-entry
invariant-loop-entry l =
    l.renewals.items ++ renewals_from l.fresh l.kept l.until l.sent.items l.entry-iterator ≡ renewals_of l.fresh l.kept l.until
