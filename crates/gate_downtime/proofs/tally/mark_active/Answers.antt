use Rattle.std.proofs.Common.{arith}
use Rattle.gate_downtime.proofs.Marks.{counted-mark, counter-fits, counter-positive, step-up, step-down, off, on}
use Rattle.gate_downtime.proofs.tally.mark_active.Goals as goal
use Rattle.gate_downtime.proofs.tally.mark_active.Goals.{then-active, else-active}

pub overflow_add-depths : goal.overflow_add-depths
overflow_add-depths c = omega (arith, c.requires.counters.few, counter-fits _ _ _ _ c.requires.within c.requires.counters.counted (c.requires.counters.placed _ _ c.requires.within) (off _ _ c.if-active.true c.if-row-active.false))

pub returns-clause-counted : goal.returns-clause-counted
returns-clause-counted c =
    elim c.if-active.branch [
      | then-active w ↦
          counted-mark _ _ _ _ _ _ _ c.requires.within c.requires.counters.counted (c.requires.counters.placed _ _ c.requires.within)
          (step-up _ _ _ w.if-active.true c.if-row-active.false) w.depths-is
      | else-active w ↦
          counted-mark _ _ _ _ _ _ _ c.requires.within c.requires.counters.counted (c.requires.counters.placed _ _ c.requires.within)
          (step-down _ _ _ w.if-active.false c.if-row-active.false (counter-positive _ _ _ _ c.requires.within c.requires.counters.counted (c.requires.counters.placed _ _ c.requires.within) (on _ _ w.if-active.false c.if-row-active.false))) w.depths-is
    ]
