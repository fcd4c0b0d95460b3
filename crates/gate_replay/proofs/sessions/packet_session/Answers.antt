use Rattle.std.proofs.Common.{◌≡◌, length, subst, arith}
use Rattle.gate_packet.specs.Decoding.{IsPacket}
use Rattle.gate_packet.specs.Encoding.{encoded}
use Rattle.gate_replay.specs.SentPacket.{received, received_in}
use Rattle.gate_replay.specs.inner.Sessions.{BeginsWith}
use Rattle.gate_replay.proofs.SentPackets.{short_begins_with, long_begins_with}
use Rattle.gate_replay.proofs.sessions.packet_session.Goals as goal

pub returns-in-Short-clause-answered : goal.returns-in-Short-clause-answered
returns-in-Short-clause-answered g c = λ a only.
    let bytes = c.encode_short-bytes.result in
    let size : length bytes ≡ 720 = omega arith in
    let packet = subst (λ p. IsPacket bytes p) c.packet-packet.ensures.packet c.encode_short-bytes.ensures.packet in
    let begins = subst (λ form. BeginsWith bytes (received_in form c.args.sent.now.packet)) c.in-Short.ensures (short_begins_with bytes c.args.sent.now.packet size packet) in
    c.stream_session.ensures.answered (received c.args.sent.now) a begins only

pub returns-in-Long-clause-answered : goal.returns-in-Long-clause-answered
returns-in-Long-clause-answered g c = λ a only.
    let bytes = c.encode-bytes.result in
    let size : length bytes ≡ 4304 = omega arith in
    let packet = subst (λ p. IsPacket bytes p) c.packet-packet.ensures.packet c.encode-bytes.ensures.packet in
    let same = subst (λ p. bytes ≡ encoded 4304 p) c.packet-packet.ensures.packet c.encode-bytes.ensures.bytes in
    let begins = subst (λ form. BeginsWith bytes (received_in form c.args.sent.now.packet)) c.in-Long.ensures (long_begins_with bytes c.args.sent.now.packet size same packet) in
    c.stream_session-in-Long.ensures.answered (received c.args.sent.now) a begins only
