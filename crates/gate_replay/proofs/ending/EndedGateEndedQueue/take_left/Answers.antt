use Rattle.std.proofs.Common.{sym, subst}
use Rattle.gate_queue.specs.Taker.{TakerState}
use Rattle.gate_replay.specs.Ending.{IsGateAfter}
use Rattle.gate_replay.specs.laws.Endings.{ended_take}
use Rattle.gate_replay.proofs.ending.EndedGateEndedQueue.take_left.Goals as goal

pub returns-clause-after : goal.returns-clause-after
returns-clause-after g c = λ run h.
    let took = c.take-item.ensures in
    ended_take c.queue.inside.taker c.take-item.new.self c.take-item.result run took.some took.none took.all took.begins (subst (λ (t : TakerState). IsGateAfter t run) (sym c.queue.view_is) h)
