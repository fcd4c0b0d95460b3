use Rattle.std.proofs.Common.{ap, sym, ◌∙◌}
use Rattle.operator_restore.specs.Prospect.{until_of}
use Rattle.std.proofs.lemmas.Result.{err_from_is_err_and}
use Rattle.operator_restore.specs.declared.prospect.ProspectFault.TheVariants.{Kept, OutOfMemory}
use Rattle.operator_restore.specs.Faults.{IsLogFault}
use Rattle.operator_restore.proofs.FaultSteps.{by_name, log_unforeseen}
use Rattle.operator_restore.proofs.ProspectSteps.{log_prospect, objects_of}
use Rattle.operator_restore.proofs.prospect.look_ahead_by_log.Goals as goal

pub returns-clause-prospect : goal.returns-clause-prospect
returns-clause-prospect c =
    log_prospect c.args.tables.fresh c.args.tables.of_log c.args.page.now c.args.log.now c.args.now c.in_ok-applier.applier c.until_of-until.result c.new-none.result.items c.in_ok-planned.planned c.in_ok-prospect.prospect
    (objects_of c.args.page.now c.read_status_page.result c.args.tables.of_log c.in_ok-applier.applier.table c.read_status_page.ensures.written (rw c.ok-page.ensures.value at c.in_ok-applier.ensures.objects))
    c.in_ok-applier.ensures.kept
    (c.until_of-until.ensures ∙ ap until_of c.moment.ensures.moment)
    c.in_ok-planned.ensures.planned
    c.new-none.ensures.items
    c.in_ok-prospect.ensures.prospect

pub returns-in_err-applier-clause-fault : goal.returns-in_err-applier-clause-fault
returns-in_err-applier-clause-fault c =
    let tables = c.args.tables in
    let p = err_from_is_err_and c.from_residual.result c.from_residual.ensures.1 in
    rw p.1 (
    by_name (IsLogFault tables.fresh tables.of_log c.args.page.now c.args.log.now c.args.now) OutOfMemory (Kept c.in_err-applier.field-0.0) p.0 tt
    c.in_err-applier.ensures.fault p.2
    )

pub returns-in_err-planned-clause-fault : goal.returns-in_err-planned-clause-fault
returns-in_err-planned-clause-fault c =
    let p = err_from_is_err_and c.from_residual-in_err-planned.result c.from_residual-in_err-planned.ensures.1 in
    rw (p.1, p.2) tt

pub returns-in_err-source-clause-fault : goal.returns-in_err-source-clause-fault
returns-in_err-source-clause-fault c =
    let p = err_from_is_err_and c.from_residual-in_err-source.result c.from_residual-in_err-source.ensures.1 in
    rw (p.1, p.2) tt

pub returns-in_err-prospect-clause-fault : goal.returns-in_err-prospect-clause-fault
returns-in_err-prospect-clause-fault c =
    let tables = c.args.tables in
    let p = err_from_is_err_and c.from_residual-in_err-prospect.result c.from_residual-in_err-prospect.ensures.1 in
    rw (p.1, p.2) (
    log_unforeseen tables.fresh tables.of_log c.args.page.now c.args.log.now c.args.now c.in_ok-applier.applier c.until_of-until.result
    c.in_ok-planned.planned c.in_err-prospect.field-0.0
    (objects_of c.args.page.now c.read_status_page.result tables.of_log c.in_ok-applier.applier.table c.read_status_page.ensures.written (rw c.ok-page.ensures.value at c.in_ok-applier.ensures.objects))
    c.in_ok-applier.ensures.kept
    (c.until_of-until.ensures ∙ ap until_of c.moment.ensures.moment)
    c.in_ok-planned.ensures.planned
    c.in_err-prospect.ensures.fault
    c.in_ok-planned.ensures.accepted
    )
