use Rattle.std.proofs.Common.{rules, ◌≡◌}
use Rattle.restore_plan.specs.declared.plan.Plan.{Plan}
use Rattle.restore_plan.specs.Plan.{results_of, others_of}
use Rattle.restore_plan.proofs.LogSteps.{of_log}
use Rattle.restore_plan.proofs.AckSteps.{log_accepted}
use Rattle.restore_plan.proofs.plan.plan_of.Goals as goal

pub returns-clause-accepted : goal.returns-clause-accepted
returns-clause-accepted c =
    let fresh = c.args.fresh.now in
    let kept = c.args.kept.now in
    let plan : Plan = record { results = c.in_ok-results.results; others = c.in_ok-others.others } in
    let results : plan.results.items ≡ results_of fresh kept = search rules in
    let others : plan.others.items ≡ others_of fresh kept c.args.until = search rules in
    λ good. log_accepted fresh kept c.args.until plan good results others (of_log fresh kept c.args.until plan.others.items others)
