use Rattle.std.proofs.Common.{refl}
use Rattle.status_memory.proofs.MemorySteps.{page_more, fault_more}
use Rattle.status_memory.proofs.memory.Memory.observe.Goals as goal

pub returns-in-Ok : goal.returns-in-Ok
returns-in-Ok g c = λ fetches is. page_more fetches c.args.self.now _ c.args.fetch c.in-Ok.page c.in-Ok.is is refl refl c.agreed_after-self.ensures c.most_after-self.ensures c.other_after-self.ensures

pub returns-in-Err : goal.returns-in-Err
returns-in-Err g c = λ fetches is. fault_more fetches c.args.self.now _ c.args.fetch c.in-Err.fault c.in-Err.is is refl refl refl refl refl
