use Rattle.statusdesk.proofs.fault.DeskFaultFault.report.Goals as goal

pub returns-in-Bind-clause-ok : goal.returns-in-Bind-clause-ok
returns-in-Bind-clause-ok g c = rw (c.in-Bind.is) (rw (c.as_bytes-in-Bind.ensures.value) at c.put_line.ensures.ok)

pub returns-in-OutOfMemory-clause-ok : goal.returns-in-OutOfMemory-clause-ok
returns-in-OutOfMemory-clause-ok g c = rw (c.in-OutOfMemory.is) c.put_last-in-OutOfMemory.ensures.ok

pub returns-in-NoKey-clause-ok : goal.returns-in-NoKey-clause-ok
returns-in-NoKey-clause-ok g c = rw (c.in-NoKey.is) c.put_last-in-NoKey.ensures.ok

pub returns-in-Spawn-clause-ok : goal.returns-in-Spawn-clause-ok
returns-in-Spawn-clause-ok g c = rw (c.in-Spawn.is) c.put_last-in-Spawn.ensures.ok

pub returns-in-WriteFault-clause-ok : goal.returns-in-WriteFault-clause-ok
returns-in-WriteFault-clause-ok g c = rw (c.in-WriteFault.is) c.put_last-in-WriteFault.ensures.ok
