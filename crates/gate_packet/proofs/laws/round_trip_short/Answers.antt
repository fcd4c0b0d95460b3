use Rattle.std.proofs.Common.{◌∙◌}
use Rattle.std.proofs.lemmas.Bool.{cond-true}
use Rattle.gate_packet.proofs.laws.round_trip_short.Goals as goal

pub returns-clause-stale : goal.returns-clause-stale
returns-clause-stale c = λ stale. c.decode_short.ensures.each_fault _ (c.one_reading.ensures.no_fault _ _ _ _ c.encode_short.ensures.packet ∙ cond-true _ _ _ stale)

pub returns-clause-fresh : goal.returns-clause-fresh
returns-clause-fresh c = c.decode_short.ensures.every_packet _ c.encode_short.ensures.packet
