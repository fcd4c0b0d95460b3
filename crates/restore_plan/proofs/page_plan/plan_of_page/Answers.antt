use Rattle.std.proofs.Common.{rules, ◌≡◌}
use Rattle.restore_plan.specs.declared.plan.Plan.{Plan}
use Rattle.restore_plan.specs.PagePlan.{object_fates, page_others}
use Rattle.restore_plan.proofs.PageSteps.{of_page}
use Rattle.restore_plan.proofs.PlainRows.{page_accepted}
use Rattle.restore_plan.proofs.MarkSteps.{all_accepted}
use Rattle.restore_plan.proofs.page_plan.plan_of_page.Goals as goal

pub returns-clause-accepted : goal.returns-clause-accepted
returns-clause-accepted c =
    let fresh = c.args.fresh.now in
    let page = c.args.page.now in
    let now = c.args.now in
    let until = c.args.until in
    let plan : Plan = record { results = c.in_ok-results.results; others = c.in_ok-others.others } in
    let results : plan.results.items ≡ object_fates fresh now page.objects.items = search rules in
    let others : plan.others.items ≡ page_others fresh now until page = search rules in
    λ good. page_accepted fresh now until page plan good results others (of_page fresh now until page plan.others.items others)

pub returns-clause-acknowledged : goal.returns-clause-acknowledged
returns-clause-acknowledged c =
    let fresh = c.args.fresh.now in
    let page = c.args.page.now in
    let now = c.args.now in
    let until = c.args.until in
    let plan : Plan = record { results = c.in_ok-results.results; others = c.in_ok-others.others } in
    let results : plan.results.items ≡ object_fates fresh now page.objects.items = search rules in
    let others : plan.others.items ≡ page_others fresh now until page = search rules in
    λ good sound problems. all_accepted fresh now page sound problems until plan good results others (of_page fresh now until page plan.others.items others)
