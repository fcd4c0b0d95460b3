use Rattle.std.proofs.Common.{length, subst, ◌∙◌}
use Rattle.gate_packet.specs.Layout.{IsPacketSize}
use Rattle.gate_packet.proofs.BlockRefs.{whole_long}
use Rattle.gate_packet.proofs.block_ref.BlockRef.to_block.Goals as goal

pub returns-in-Some-clause-bytes : goal.returns-in-Some-clause-bytes
returns-in-Some-clause-bytes c =
    let first = c.in-Some.ensures.cases in
    whole_long c.self.inside.bytes.now c.in-Some.long.now c.self.invariant.size first.enough first.same ∙ c.self.view_is

pub returns-in-Some-clause-size : goal.returns-in-Some-clause-size
returns-in-Some-clause-size c = subst (λ xs. IsPacketSize (length xs)) c.self.view_is c.self.invariant.size
