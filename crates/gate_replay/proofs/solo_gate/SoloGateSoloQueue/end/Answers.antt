use Rattle.std.proofs.Common.{◌≡◌, sym, ap, ◌∙◌, subst}
use Rattle.gate_queue.specs.Client.{ClientState}
use Rattle.gate_queue.specs.Taker.{TakerState, TakesIn}
use Rattle.gate_replay.specs.SoloGate.{SoloState, solo_of, IsAfter}
use Rattle.gate_replay.specs.laws.Endings.{ended_both}
use Rattle.gate_replay.proofs.solo_gate.SoloGateSoloQueue.end.Goals as goal

pub returns-clause-after : goal.returns-clause-after
returns-clause-after g c = λ run h.
    let parts = c.client.inside in
    let queue : SoloState = solo_of parts.client parts.other parts.taker in
    let mid : TakerState = c.take_in.new.self in
    let last : TakerState = c.take_in-2.new.self in
    let first : queue.client.number ≡ 1 = ap (λ (d : SoloState). d.client.number) c.client.view_is ∙ c.turn_to.ensures.named in
    let one : TakesIn queue.client queue.taker mid = subst (λ (s : ClientState). TakesIn s queue.taker mid) (c.end.ensures ∙ c.into_parts-client.ensures.client) c.take_in.ensures.list in
    let two : TakesIn queue.other mid last = subst (λ (s : ClientState). TakesIn s mid last) c.end-2.ensures c.take_in-2.ensures.list in
    ended_both queue mid last run first one c.take_in.ensures.begins two c.take_in-2.ensures.begins (subst (λ (d : SoloState). IsAfter d run) (sym c.client.view_is) (c.turn_to.ensures.after run h))
