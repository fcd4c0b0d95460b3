use Rattle.std.proofs.Common.{sym, ◌∙◌}
use Rattle.gate_packet.proofs.BlockRefs.{sound_block, unsound_block}
use Rattle.gate_packet.proofs.block_ref.check_word_fault.Goals as goal

pub returns-then-u32_at-word : goal.returns-then-u32_at-word
returns-then-u32_at-word c = sound_block c.args.bytes.now c.args.word c.requires.version c.requires.word (sym c.u32_at.ensures ∙ c.if-u32_at-word.true)

pub returns-else-u32_at-word : goal.returns-else-u32_at-word
returns-else-u32_at-word c = unsound_block c.args.bytes.now c.args.word c.requires.version c.requires.word (λ same. c.if-u32_at-word.false (c.u32_at.ensures ∙ same))
