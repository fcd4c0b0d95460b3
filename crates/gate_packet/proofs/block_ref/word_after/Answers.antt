use Rattle.std.proofs.Common.{◌≡◌, take, drop, ◌∷◌, [], length, ◌-◌, ◌∙◌, sym, arith}
use Rattle.std.proofs.lemmas.Slice.{between_to_end}
use Rattle.gate_packet.specs.Layout.{zeros}
use Rattle.gate_packet.proofs.CheckWordBlocks.{after_bytes-three}
use Rattle.gate_packet.proofs.block_ref.word_after.Goals as goal

pub returns : goal.returns
unfolding zeros
returns c =
    let three = after_bytes-three 4294967295 (take 4 c.args.bytes.now) (0 ∷ 0 ∷ 0 ∷ 0 ∷ []) (drop 8 c.args.bytes.now) in
    let rest : take (length c.args.bytes.now - 8) (drop 8 c.args.bytes.now) ≡ drop 8 c.args.bytes.now = between_to_end c.args.bytes.now 8 (length c.args.bytes.now) (omega arith) in
    c.extended.ensures ∙ rw (rest, c.extended-word-2.ensures, c.extended-word.ensures) (sym three)
