use Rattle.std.proofs.Common.{refl}
use Rattle.gate_replay.proofs.SessionSteps.{packet_served}
use Rattle.gate_replay.proofs.sessions.stream_session.Goals as goal

pub returns-clause-answered : goal.returns-clause-answered
returns-clause-answered g c = λ p a is only.
    packet_served _ _ c.args.greatest_age p c.args.now c.args.bytes.now c.args.client.now c.serve_packets.new.client _ _ _ _ _ c.serve_packets.result a
    is c.one_reading.ensures.one c.one_reading.ensures.no_fault refl c.serve_packets.ensures.session only
