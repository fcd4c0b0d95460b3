use Rattle.gate_downtime.specs.inner.Walk.{Walked, cursor_size}
use Rattle.gate_downtime.specs.inner.Chains.{IsReady, Keeps}
use Rattle.gate_downtime.proofs.chains.Chains.turn_waiting.Given as goal

abbrev pub invariant-walk : goal.invariant-walk
invariant-walk l = record {
  ready : IsReady l.self;
  walked : Walked l.initial.self.moment l.place l.initial.self.rows.items l.self.rows.items l.cursor;
  kept : Keeps l.initial.self l.self;
}

abbrev pub decreases-walk : goal.decreases-walk
decreases-walk l = cursor_size l.cursor
