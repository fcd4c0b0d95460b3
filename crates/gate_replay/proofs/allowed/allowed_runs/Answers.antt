use Rattle.gate_replay.specs.laws.Allowing.{shown_is_first, legal_allowed}
use Rattle.gate_replay.proofs.Numbers.{allowed_numbers}
use Rattle.gate_replay.proofs.Looks.{queued_after_look}
use Rattle.gate_replay.specs.laws.Drained.{drained_allowed}
use Rattle.gate_replay.proofs.allowed.allowed_runs.Goals as goal

pub returns-clause-legal : goal.returns-clause-legal
returns-clause-legal c = legal_allowed

pub returns-clause-closed : goal.returns-clause-closed
returns-clause-closed c = shown_is_first

pub returns-clause-numbers : goal.returns-clause-numbers
returns-clause-numbers c = allowed_numbers

pub returns-clause-drained : goal.returns-clause-drained
returns-clause-drained c = drained_allowed

pub returns-clause-looked : goal.returns-clause-looked
returns-clause-looked c = queued_after_look
