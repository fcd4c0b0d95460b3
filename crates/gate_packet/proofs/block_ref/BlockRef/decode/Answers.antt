use Rattle.std.proofs.Common.{◌≡◌, ◌<◌, length, false, Some, None, sym, ap, subst, ◌∙◌}
use Rattle.std.proofs.lemmas.Bool.{cond-false}
use Rattle.gate_packet.specs.Layout.{host_name}
use Rattle.gate_packet.specs.Decoding.{IsPacket, content_of, is_stale}
use Rattle.gate_packet.proofs.PacketFaults.{no_fault, reported, packet_fault, faultless-IsPacket}
use Rattle.gate_packet.proofs.block_ref.BlockRef.decode.Goals as goal

pub returns-in-Some-clause-every_packet : goal.returns-in-Some-clause-every_packet
returns-in-Some-clause-every_packet c = λ p is_packet fresh. absurd (
    let none : Some c.in-Some.fault ≡ None = c.in-Some.ensures ∙ packet_fault _ p _ _ is_packet ∙ cond-false _ _ _ fresh in
    cc)

pub returns-in-Some-clause-first_fault : goal.returns-in-Some-clause-first_fault
returns-in-Some-clause-first_fault c = reported _ _ _ c.in-Some.fault (sym c.in-Some.ensures)

pub packet_in-requires-clause-has_host : goal.packet_in-requires-clause-has_host
packet_in-requires-clause-has_host c =
    let faultless = no_fault c.args.self.now c.args.now.0 c.args.greatest_age (sym c.fault_of.ensures ∙ c.in_default.is) in
    subst (λ bytes. 0 < length (host_name bytes)) (sym c.bytes.ensures.bytes) faultless.has_host

pub returns-in-Ok-clause-packet : goal.returns-in-Ok-clause-packet
returns-in-Ok-clause-packet c =
    let faultless = no_fault c.args.self.now c.args.now.0 c.args.greatest_age (sym c.fault_of.ensures ∙ c.in_default.is) in
    let same = c.in-Ok.ensures ∙ ap content_of c.bytes.ensures.bytes in
    subst (λ p. IsPacket c.args.self.now p) (sym same) (faultless-IsPacket c.args.self.now c.args.now.0 c.args.greatest_age c.bytes.ensures.size faultless)

pub returns-in-Ok-clause-fresh : goal.returns-in-Ok-clause-fresh
returns-in-Ok-clause-fresh c =
    let faultless = no_fault c.args.self.now c.args.now.0 c.args.greatest_age (sym c.fault_of.ensures ∙ c.in_default.is) in
    let same = c.in-Ok.ensures ∙ ap content_of c.bytes.ensures.bytes in
    subst (λ p. is_stale p.timestamp c.args.now.0 c.args.greatest_age ≡ false) (sym same) faultless.fresh
