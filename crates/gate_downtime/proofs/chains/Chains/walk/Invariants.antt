use Rattle.gate_downtime.specs.inner.Chains.{IsWalking, Walks, Keeps, left_of}
use Rattle.gate_downtime.proofs.chains.Chains.walk.Given as goal

abbrev pub invariant-pending : goal.invariant-pending
invariant-pending l = record {
  walking : IsWalking l.change l.self l.self.pending.items;
  walks : Walks l.change l.initial.self l.initial.self.pending.items l.self l.self.pending.items;
  kept : Keeps l.initial.self l.self;
}

abbrev pub decreases-pending : goal.decreases-pending
decreases-pending l = left_of l.change l.self l.self.pending.items
