use Rattle.std.proofs.Common.{◌≡◌, ◌++◌, drop}
use Rattle.std.specs.List.{flat_map}
use Rattle.log_summary.specs.Lines.{outcome_line}
use Rattle.log_summary.proofs.lines.push_outcomes.Given as goal

abbrev pub invariant-loop-outcome : goal.invariant-loop-outcome
invariant-loop-outcome l =
    l.out.items ++ flat_map (outcome_line l.log) (drop l.outcome-index l.outcomes)
    ≡ l.fn.out.items ++ flat_map (outcome_line l.log) l.outcomes
