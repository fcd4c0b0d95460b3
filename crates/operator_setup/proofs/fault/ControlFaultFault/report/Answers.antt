use Rattle.operator_setup.proofs.fault.ControlFaultFault.report.Goals as goal

pub returns-clause-ok : goal.returns-clause-ok
returns-clause-ok g c = rw (c.cause.ensures) at c.put_line.ensures.ok
