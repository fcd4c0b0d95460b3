use Rattle.std.proofs.Common.{refl}
use Rattle.gate_ports.specs.Room.{nobody}
use Rattle.gate_ports.proofs.Giving.{fewer_after, give_way_more}
use Rattle.gate_ports.proofs.Late.{time_more}
use Rattle.gate_ports.proofs.serving.Serving.makes_room.Goals as goal

pub returns-then-self-ne2-clause-gave_way : goal.returns-then-self-ne2-clause-gave_way
returns-then-self-ne2-clause-gave_way c = nobody

pub loop-self-init : goal.loop-self-init
loop-self-init c = record {
  gave_way = nobody;
  served = refl;
  time = record { now = refl; ending = refl; rules = refl };
  now = refl;
}

pub loop-self-smaller : goal.loop-self-smaller
loop-self-smaller c =
    fewer_after _ _ _ _ _ c.deref-in-loop-self.ensures.value c.in-Some.ensures.first c.close.ensures.closed

pub loop-self-preserved : goal.loop-self-preserved
loop-self-preserved c = record {
  gave_way = give_way_more _ _ _ _ _ _ _ _ c.loop-self.invariant.gave_way c.deref.ensures.value c.kept.ensures
      c.loop-self-test.true c.deref-in-loop-self.ensures.value c.in-Some.ensures.first c.close.ensures.closed;
  served = c.loop-self.invariant.served;
  time = time_more _ _ _ c.loop-self.invariant.time c.close.ensures.time;
  now = c.loop-self.invariant.now;
}
