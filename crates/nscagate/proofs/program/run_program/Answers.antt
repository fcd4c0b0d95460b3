use Rattle.gate_replay.specs.Allowed.{IsAllowed}
use Rattle.nscagate.proofs.Unknown.{unknown_replay, unknown_serve}
use Rattle.nscagate.proofs.program.run_program.Goals as goal

pub returns-in-Err-clause-replay : goal.returns-in-Err-clause-replay
returns-in-Err-clause-replay g c = λ is. unknown_replay IsAllowed _ _ _ _ _ c.in-Err.fault _ c.in-Err.ensures.refused is (record { status_is = c.end_with-in-Err.ensures.status; reported = c.end_with-in-Err.ensures.reported })

pub returns-in-Err-clause-serve : goal.returns-in-Err-clause-serve
returns-in-Err-clause-serve g c = λ path is. unknown_serve path _ _ _ _ _ c.in-Err.fault _ c.in-Err.ensures.refused is (record { status_is = c.end_with-in-Err.ensures.status; reported = c.end_with-in-Err.ensures.reported })
