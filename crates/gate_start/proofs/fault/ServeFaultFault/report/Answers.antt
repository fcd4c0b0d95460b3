use Rattle.gate_start.proofs.fault.ServeFaultFault.report.Goals as goal

pub returns-in-Bind-clause-ok : goal.returns-in-Bind-clause-ok
returns-in-Bind-clause-ok g c = rw (c.in-Bind.is) (rw (c.bytes-in-Bind.ensures) at c.put_line-in-Bind.ensures.ok)

pub returns-in-Run-clause-ok : goal.returns-in-Run-clause-ok
returns-in-Run-clause-ok g c = rw (c.in-Run.is) c.report.ensures.ok
