use Rattle.gate_replay.proofs.OneReplay.{items_are_taken, records_begin, one_run, one_played, played_allowed}
use Rattle.gate_replay.proofs.laws.replay_laws.Goals as goal

pub returns-clause-items : goal.returns-clause-items
returns-clause-items c = items_are_taken

pub returns-clause-begun : goal.returns-clause-begun
returns-clause-begun c = records_begin

pub returns-clause-function : goal.returns-clause-function
returns-clause-function c = one_run

pub returns-clause-one : goal.returns-clause-one
returns-clause-one c = one_played

pub returns-clause-allowed : goal.returns-clause-allowed
returns-clause-allowed c = played_allowed
