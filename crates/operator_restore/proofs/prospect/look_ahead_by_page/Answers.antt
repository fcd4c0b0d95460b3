use Rattle.std.proofs.Common.{◌≡◌, sym, subst}
use Rattle.std.specs.Prelude.{None}
use Rattle.std.proofs.lemmas.Result.{err_from_is_err_and}
use Rattle.restore_plan.specs.Plan.{commands_of}
use Rattle.restore_plan.specs.Rehearsal.{first_refusal}
use Rattle.operator_restore.proofs.FaultSteps.{no_page, unreadable, aged, page_unforeseen}
use Rattle.operator_restore.proofs.ProspectSteps.{page_prospect}
use Rattle.operator_restore.proofs.prospect.look_ahead_by_page.Goals as goal

pub returns-clause-prospect : goal.returns-clause-prospect
returns-clause-prospect c =
    page_prospect c.args.fresh c.args.text.now c.args.old c.args.now c.in_ok-page.page c.in_ok-age.age c.until_of-until.result c.in_ok-warning.warning.items c.in_ok-planned.planned c.in_ok-prospect.prospect
    c.in_ok-page.ensures.written
    c.in_ok-age.ensures.age
    c.in_ok-age.ensures.escaped
    c.in_ok-age.ensures.is_new
    c.in_ok-planned.ensures.planned
    c.until_of-until.ensures
    c.in_ok-warning.ensures
    c.in_ok-prospect.ensures.prospect

pub returns-in_err-page-clause-fault : goal.returns-in_err-page-clause-fault
returns-in_err-page-clause-fault c =
    let p = err_from_is_err_and c.from_residual.result c.from_residual.ensures.1 in
    rw p.1 (
    unreadable c.args.fresh c.args.text.now c.args.old c.args.now p.0
    (no_page c.args.text.now c.in_err-page.field-0.0 p.0 c.in_err-page.ensures.read p.2)
    )

pub returns-in_err-age-clause-fault : goal.returns-in_err-age-clause-fault
returns-in_err-age-clause-fault c =
    let p = err_from_is_err_and c.from_residual-in_err-age.result c.from_residual-in_err-age.ensures.1 in
    rw (p.1, p.2) (
    aged c.args.fresh c.args.text.now c.args.old c.args.now c.in_ok-page.page c.in_err-age.field-0.0 c.in_ok-page.ensures.written
    c.in_err-age.ensures.fault
    )

pub returns-in_err-planned-clause-fault : goal.returns-in_err-planned-clause-fault
returns-in_err-planned-clause-fault c =
    let p = err_from_is_err_and c.from_residual-in_err-planned.result c.from_residual-in_err-planned.ensures.1 in
    rw (p.1, p.2) tt

pub returns-in_err-warning-clause-fault : goal.returns-in_err-warning-clause-fault
returns-in_err-warning-clause-fault c =
    let p = err_from_is_err_and c.from_residual-in_err-warning.result c.from_residual-in_err-warning.ensures.1 in
    rw (p.1, p.2) tt

pub returns-in_err-prospect-clause-fault : goal.returns-in_err-prospect-clause-fault
returns-in_err-prospect-clause-fault c =
    let p = err_from_is_err_and c.from_residual-in_err-prospect.result c.from_residual-in_err-prospect.ensures.1 in
    rw (p.1, p.2) (
    page_unforeseen c.args.fresh c.args.text.now c.args.old c.args.now c.in_ok-page.page c.until_of-until.result
    c.in_ok-planned.planned c.in_err-prospect.field-0.0 c.in_ok-page.ensures.written c.in_ok-planned.ensures.planned c.until_of-until.ensures
    c.in_err-prospect.ensures.fault
    (λ problems. subst (λ moment. first_refusal c.args.fresh moment (commands_of c.in_ok-planned.planned.double) ≡ None) (sym c.until_of-until.ensures) (c.in_ok-planned.ensures.accepted c.in_ok-page.ensures.page.1 problems))
    )
