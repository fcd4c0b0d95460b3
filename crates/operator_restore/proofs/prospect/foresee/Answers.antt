use Rattle.std.proofs.Common.{ap, ◌∙◌, subst}
use Rattle.std.proofs.lemmas.Result.{err_from_is_err_and, IfErr-weaker}
use Rattle.restore_plan.specs.Plan.{commands_of}
use Rattle.restore_plan.specs.Rehearsal.{IsUnrehearsed}
use Rattle.operator_restore.specs.declared.prospect.ProspectFault.TheVariants.{Unrehearsed, OutOfMemory}
use Rattle.operator_restore.specs.Faults.{IsUnforeseen}
use Rattle.operator_restore.specs.Prospect.{shown_after}
use Rattle.operator_restore.proofs.FaultSteps.{by_name, unnamed}
use Rattle.operator_restore.proofs.prospect.foresee.Goals as goal

pub returns-in_err-shown-clause-fault : goal.returns-in_err-shown-clause-fault
returns-in_err-shown-clause-fault c =
    let planned = c.args.planned in
    let fault = c.in_err-shown.field-0.0 in
    let p = err_from_is_err_and c.from_residual-in_err-shown.result c.from_residual-in_err-shown.ensures.1 in
    rw p.1 (
    by_name (IsUnforeseen c.args.fresh c.args.until (commands_of planned.double) planned.kept.items) OutOfMemory (Unrehearsed fault) p.0 tt
    (subst (λ list. IsUnrehearsed c.args.fresh c.args.until list fault) c.in_ok-commands_of.ensures c.in_err-shown.ensures.fault) p.2
    )

pub returns-clause-fault : goal.returns-clause-fault
returns-clause-fault c =
    IfErr-weaker c.prospect_of.result _ (IsUnforeseen c.args.fresh c.args.until (commands_of c.args.planned.double) c.args.planned.kept.items)
    (λ fault is. unnamed c.args.fresh c.args.until (commands_of c.args.planned.double) c.args.planned.kept.items c.in_ok-shown.shown.items fault
    (c.in_ok-shown.ensures.page ∙ ap (shown_after c.args.fresh c.args.until) c.in_ok-commands_of.ensures) is)
    c.prospect_of.ensures.fault
