use Rattle.std.proofs.lemmas.Result.{err_from_is_err_and, IfErr-weaker}
use Rattle.operator_restore.specs.declared.kept.KeptFault.TheVariants.{BadTable, OutOfMemory}
use Rattle.operator_restore.specs.Kept.{IsKeptFault, IsGatewayFault}
use Rattle.operator_restore.specs.Pages.{kept_lines}
use Rattle.operator_restore.proofs.FaultSteps.{by_cause, as_gateway}
use Rattle.operator_restore.proofs.kept.kept_gateway.Goals as goal

pub returns-in_err-kept_table-clause-fault : goal.returns-in_err-kept_table-clause-fault
returns-in_err-kept_table-clause-fault c =
    let p = err_from_is_err_and c.from_residual.result c.from_residual.ensures.1 in
    rw p.1 (
    by_cause (IsGatewayFault (kept_lines c.args.page.now) c.args.log.now) OutOfMemory BadTable p.0 tt
    c.in_err-kept_table.ensures.faulty p.2
    )

pub returns-clause-fault : goal.returns-clause-fault
returns-clause-fault c =
    let table = c.in_ok-kept_table.field-0 in
    let lines = kept_lines c.args.page.now in
    IfErr-weaker c.kept_over.result (IsKeptFault table c.args.log.now) (IsGatewayFault lines c.args.log.now)
    (as_gateway table lines c.args.log.now c.in_ok-kept_table.ensures.table) c.kept_over.ensures.fault
