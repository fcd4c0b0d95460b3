use Rattle.std.proofs.Common.{arith}
use Rattle.gate_downtime.proofs.GoneSteps.{sound-none}
use Rattle.gate_downtime.proofs.tally.no_tally.Goals as goal

pub returns-clause-sound : goal.returns-clause-sound
returns-clause-sound c = λ now. record {
  sound = sound-none now c.args.objects c.in_ok-zeros.field-0.items _ c.in_ok-zeros.ensures.items c.new.ensures.items c.new.ensures.heap_order;
  gone = c.no_gone.ensures.gone now;
  noted = λ k d lt. absurd (omega (arith, lt));
}
