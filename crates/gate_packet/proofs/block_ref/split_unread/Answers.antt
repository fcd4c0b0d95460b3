use Rattle.gate_packet.proofs.BlockRefs.{unread_block, unread_begins, unread_rest}
use Rattle.gate_packet.proofs.block_ref.split_unread.Goals as goal

pub returns-in_default-clause-none : goal.returns-in_default-clause-none
returns-in_default-clause-none c = unread_rest c.args.bytes.now c.requires c.in_default.ensures.cases

pub invariant_of-result : goal.invariant_of-result
invariant_of-result c = let parts = c.in-Some.ensures.cases in unread_block c.args.bytes.now c.in-Some.long.now c.requires parts.1 parts.3

pub returns-clause-some : goal.returns-clause-some
returns-clause-some c = let parts = c.in-Some.ensures.cases in unread_begins c.args.bytes.now c.in-Some.long.now c.in-Some.more.now c.requires parts.0 parts.1 parts.2
