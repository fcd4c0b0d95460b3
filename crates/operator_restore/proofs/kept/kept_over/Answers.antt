use Rattle.std.proofs.Common.{◌<◌, length, ap, ◌∙◌, subst}
use Rattle.std.specs.Prelude.{Err}
use Rattle.std.proofs.lemmas.Result.{err_from_is_err_and}
use Rattle.operator_restore.specs.declared.kept.KeptFault.TheVariants.{BadLog, TooMany, OutOfMemory}
use Rattle.operator_restore.specs.Kept.{IsKeptFault}
use Rattle.operator_restore.proofs.FaultSteps.{by_name, by_cause, others}
use Rattle.operator_restore.proofs.kept.kept_over.Goals as goal

pub returns-in_err-log-clause-fault : goal.returns-in_err-log-clause-fault
returns-in_err-log-clause-fault c =
    let p = err_from_is_err_and c.from_residual.result c.from_residual.ensures.1 in
    rw p.1 (by_name (IsKeptFault c.args.table c.args.log.now) OutOfMemory (BadLog c.in_err-log.field-0.0) p.0 tt c.in_err-log.ensures.fault p.2)

pub returns-in_err-applier-clause-fault : goal.returns-in_err-applier-clause-fault
returns-in_err-applier-clause-fault c =
    let p = err_from_is_err_and c.from_residual-in_err-applier.result c.from_residual-in_err-applier.ensures.1 in
    rw p.1 (
    by_cause (IsKeptFault c.args.table c.args.log.now) OutOfMemory TooMany p.0 tt
    (λ same. (
      c.in_ok-log.log.items,
      c.in_ok-log.ensures.written,
      subst (λ list. 1000000 < length list) c.in_ok-records.ensures (c.in_err-applier.ensures.too_many (ap (λ it. Err it) same)),
    )) p.2
    )

pub returns-else-are_accepted-clause-fault : goal.returns-else-are_accepted-clause-fault
returns-else-are_accepted-clause-fault c =
    let applier = c.in_ok-applier.applier in
    others c.args.table applier.table c.args.log.now c.in_ok-log.log.items c.in_ok-records.records.items applier.records
    c.outcomes.result.now c.are_accepted.result c.in_ok-log.ensures.written c.in_ok-records.ensures c.in_ok-applier.ensures.table
    c.in_ok-applier.ensures.records (c.outcomes.ensures.outcomes ∙ c.outcomes.ensures.meaning) c.are_accepted.ensures c.if-are_accepted.false
