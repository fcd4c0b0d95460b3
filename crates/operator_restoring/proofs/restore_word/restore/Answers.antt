use Rattle.std.proofs.Common.{sym, subst, inl}
use Rattle.operator_commands.specs.declared.request.Task.{Task}
use Rattle.operator_restoring.specs.Restored.{IsPlannedAt, is_old_asked}
use Rattle.operator_restoring.proofs.restore_word.restore.Goals as goal

pub returns-in_ok-status-in-Ok-clause-ended : goal.returns-in_ok-status-in-Ok-clause-ended
returns-in_ok-status-in-Ok-clause-ended g c =
    let entered = c.in_ok-entered.entered in
    let prospect = c.in-Ok.prospect in
    inl (record {
      entered = entered;
      prospect = prospect;
      planned = subst (λ (task : Task). IsPlannedAt (is_old_asked task) entered prospect) (sym c.in-Restore.is) c.in-Ok.ensures;
      printed = c.in_ok-status-in-Ok.ensures.printed;
    })
