use Rattle.std.proofs.Common.{length, arith}
use Rattle.std.proofs.lemmas.Bool.{false_from_ne_true, eqb-true}
use Rattle.std.proofs.lemmas.List.Sums.{position_or_len_is}
use Rattle.gate_kept.proofs.CutSteps.{cut_parts, cut_none}
use Rattle.gate_kept.proofs.text.split_line.Goals as goal

pub returns-in_err-end : goal.returns-in_err-end
returns-in_err-end c =
    let at = position_or_len_is _ c.args.bytes.now (length c.args.bytes.now) 0 (omega arith) (λ k low. false_from_ne_true _ (c.in_err-end.ensures k (omega arith) low)) (λ low. absurd (omega arith)) in
    rw c.from_residual.ensures (cut_none 10 c.args.bytes.now at)

pub returns : goal.returns
returns c =
    let found = c.in_ok-end.ensures in
    let at = position_or_len_is _ c.args.bytes.now c.in_ok-end.end 0 (omega (arith, found.0.high)) (λ k low. false_from_ne_true _ (found.0.before k (omega arith) low)) (λ low. found.1) in
    cut_parts 10 c.args.bytes.now c.in_ok-end.end at found.0.high (eqb-true _ _ found.1)
