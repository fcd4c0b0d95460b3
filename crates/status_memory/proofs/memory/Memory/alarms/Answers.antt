use Rattle.std.proofs.Common.{◌∙◌}
use Rattle.status_memory.proofs.MemorySteps.{same_alarms}
use Rattle.status_memory.proofs.memory.Memory.alarms.Goals as goal

pub returns-clause-fetched : goal.returns-clause-fetched
returns-clause-fetched g c =
    let made = rw (c.is_some-failed.ensures, c.new-alarms.ensures.items) at c.in_ok-push_alarms.ensures in
    λ fetches is. made ∙ same_alarms fetches c.args.self.now c.args.now is
