use Rattle.std.proofs.Common.{◌∙◌, ap, arith}
use Rattle.gate_packet.specs.Layout.{packet_version}
use Rattle.gate_packet.proofs.Cuts.{rest_of_few, long_begins}
use Rattle.gate_packet.proofs.BlockRefs.{version_in_front, word_of_long}
use Rattle.gate_packet.proofs.block_ref.split_long.Goals as goal

pub returns-in_default-clause-none : goal.returns-in_default-clause-none
returns-in_default-clause-none c = rest_of_few c.args.bytes.now c.in_default.ensures.cases c.requires.not_short

pub check_word_fault-fault-requires-clause-version : goal.check_word_fault-fault-requires-clause-version
check_word_fault-fault-requires-clause-version c =
    ap (λ xs. packet_version xs) c.in-Some.ensures.cases.1 ∙ version_in_front 4304 c.args.bytes.now (omega arith) ∙ c.requires.version

pub check_word_fault-fault-requires-clause-word : goal.check_word_fault-fault-requires-clause-word
check_word_fault-fault-requires-clause-word c =
    let parts = c.in-Some.ensures.cases in
    word_of_long c.args.bytes.now c.in-Some.long.now c.args.word c.extended.result parts.1 parts.3 c.requires.word c.extended.ensures

pub returns-clause-some : goal.returns-clause-some
returns-clause-some c = let parts = c.in-Some.ensures.cases in long_begins c.args.bytes.now c.in-Some.long.now c.in-Some.more.now c.requires.not_short parts.0 parts.1 parts.2
