use Rattle.gate_core.proofs.Runs.{sound}
use Rattle.gate_core.proofs.Endings.{queued_after_look, drained_merge}
use Rattle.gate_core.proofs.Taken.{taken_count_is}
use Rattle.gate_core.proofs.law.conservation.Goals as goal

pub returns-clause-merge : goal.returns-clause-merge
returns-clause-merge c = λ limits run h. (sound limits run h).state

pub returns-clause-looked : goal.returns-clause-looked
returns-clause-looked c = queued_after_look

pub returns-clause-drained : goal.returns-clause-drained
returns-clause-drained c = drained_merge

pub returns-clause-counted : goal.returns-clause-counted
returns-clause-counted c = taken_count_is
