use Rattle.std.proofs.Common.{sym, ◌∙◌, arith}
use Rattle.gate_ports.proofs.Whole.{short_whole, long_whole, long_rest}
use Rattle.gate_ports.proofs.cutting.first_packet.Goals as goal

pub returns-then-begins_short-clause-some : goal.returns-then-begins_short-clause-some
returns-then-begins_short-clause-some c = short_whole c.args.bytes.now (sym c.begins_short.ensures ∙ c.if-begins_short.true)

pub returns-then-bytes-ge-PACKET_SIZE-clause-some : goal.returns-then-bytes-ge-PACKET_SIZE-clause-some
returns-then-bytes-ge-PACKET_SIZE-clause-some c =
    (long_whole c.args.bytes.now (sym c.begins_short.ensures ∙ c.if-begins_short.false), c.if-bytes-ge-PACKET_SIZE.true)

pub returns-else-bytes-ge-PACKET_SIZE-clause-none : goal.returns-else-bytes-ge-PACKET_SIZE-clause-none
returns-else-bytes-ge-PACKET_SIZE-clause-none c =
    let few = c.if-bytes-ge-PACKET_SIZE.false in
    long_rest c.args.bytes.now (sym c.begins_short.ensures ∙ c.if-begins_short.false) (omega (arith, few))
