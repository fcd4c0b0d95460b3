use Rattle.std.proofs.Common.{[], refl}
use Rattle.gate_replay.specs.declared.script.Step.TheVariants as step
use Rattle.gate_replay.specs.inner.Playing.{solo_view}
use Rattle.gate_replay.proofs.PlaySteps.{under_way, serves_session, session_drained, plays_clock}
use Rattle.gate_replay.proofs.player.Player.step.Goals as goal

pub returns-in_ok-answer-in-Packet : goal.returns-in_ok-answer-in-Packet
returns-in_ok-answer-in-Packet g c =
    let state = g.W.Sink.state in
    let done = session_drained (solo_view g.D.SoloQueue.after g.D.SoloQueue.limits) (solo_view g.D.Ended.EndedQueue.after g.D.Ended.EndedQueue.limits) c.drain.result c.args.self c.in_ok-answer-in-Packet.field-0 c.serve_packet-queue.result.0 c.serve_packet-queue.result.1 (state c.args.output.now) (state c.answer.new.output) (step.Packet c.in-Packet.sent)
    c.serve_packet-queue.ensures.answered c.in_ok-answer-in-Packet.ensures.answered refl c.drain.ensures.drained c.drain.ensures.stopped in
    record { played = rw c.in-Packet.is done.0; stopped = rw c.in-Packet.is done.1 }

pub returns-in_ok-answer-in-Ok : goal.returns-in_ok-answer-in-Ok
returns-in_ok-answer-in-Ok g c =
    let state = g.W.Sink.state in
    let done = session_drained (solo_view g.D.SoloQueue.after g.D.SoloQueue.limits) (solo_view g.D.Ended.EndedQueue.after g.D.Ended.EndedQueue.limits) c.drain-in-Ok.result c.args.self c.in_ok-answer-in-Ok.field-0 c.in-Ok.queue c.in-Ok.report (state c.args.output.now) (state c.answer-in-Ok.new.output) (step.Line c.in-Line.text)
    (λ answer only. c.in-Ok.ensures.answered answer only c.args.self.age) c.in_ok-answer-in-Ok.ensures.answered refl c.drain-in-Ok.ensures.drained c.drain-in-Ok.ensures.stopped in
    record { played = rw c.in-Line.is done.0; stopped = rw c.in-Line.is done.1 }

pub drain-requires : goal.drain-requires
drain-requires g c =
    let state = g.W.Sink.state in
    let h = c.requires.under_way in
    let served = serves_session (solo_view g.D.SoloQueue.after g.D.SoloQueue.limits) c.args.self c.in_ok-answer-in-Packet.field-0 c.serve_packet-queue.result.0 c.serve_packet-queue.result.1 (state c.args.output.now) (state c.answer.new.output) (step.Packet c.in-Packet.sent)
    c.serve_packet-queue.ensures.answered c.in_ok-answer-in-Packet.ensures.answered h.setting h.replayed h.shows in
    (state c.answer.new.output, under_way (solo_view g.D.SoloQueue.after g.D.SoloQueue.limits) h.setting c.in_ok-answer-in-Packet.field-0 (state c.answer.new.output) _ (served.shows []))

pub drain-requires-in-Ok : goal.drain-requires-in-Ok
drain-requires-in-Ok g c =
    let state = g.W.Sink.state in
    let h = c.requires.under_way in
    let served = serves_session (solo_view g.D.SoloQueue.after g.D.SoloQueue.limits) c.args.self c.in_ok-answer-in-Ok.field-0 c.in-Ok.queue c.in-Ok.report (state c.args.output.now) (state c.answer-in-Ok.new.output) (step.Line c.in-Line.text)
    (λ answer only. c.in-Ok.ensures.answered answer only c.args.self.age) c.in_ok-answer-in-Ok.ensures.answered h.setting h.replayed h.shows in
    (state c.answer-in-Ok.new.output, under_way (solo_view g.D.SoloQueue.after g.D.SoloQueue.limits) h.setting c.in_ok-answer-in-Ok.field-0 (state c.answer-in-Ok.new.output) _ (served.shows []))

pub returns-in-Clock-clause-played : goal.returns-in-Clock-clause-played
returns-in-Clock-clause-played g c =
    let state = g.W.Sink.state in
    rw c.in-Clock.is (plays_clock (solo_view g.D.SoloQueue.after g.D.SoloQueue.limits) c.args.self c.in-Clock.moment (state c.args.output.now))

pub returns-in-Page-clause-played : goal.returns-in-Page-clause-played
returns-in-Page-clause-played g c = rw c.in-Page.is c.page.ensures.played
