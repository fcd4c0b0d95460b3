use Rattle.gate_opening.proofs.opening.open_parts.Goals as goal

pub returns-in-Err-clause-fault : goal.returns-in-Err-clause-fault
returns-in-Err-clause-fault c = c.in-Err.ensures.fault c.args.workers c.args.capacity

pub returns-in-Err-open_gate-clause-fault : goal.returns-in-Err-open_gate-clause-fault
returns-in-Err-open_gate-clause-fault c = c.in-Err-open_gate.ensures.fault c.args.limit c.in-Ok.ensures.limit
