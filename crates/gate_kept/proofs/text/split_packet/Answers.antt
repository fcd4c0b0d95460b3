use Rattle.std.proofs.Common.{sym, ◌∙◌}
use Rattle.gate_kept.proofs.SplitSteps.{if_some, split_off}
use Rattle.gate_kept.proofs.text.split_packet.Goals as goal

pub returns-then-begins_packet-clause-some : goal.returns-then-begins_packet-clause-some
returns-then-begins_packet-clause-some c =
    if_some _ _ _ c.split_first_chunk.result c.split_first_chunk.ensures.cases (λ parts found.
    split_off c.args.bytes.now parts.0.now parts.1.now (sym c.begins_packet.ensures ∙ c.if-begins_packet.true) found.0 found.1 found.2)
