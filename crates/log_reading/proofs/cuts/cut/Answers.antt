use Rattle.std.proofs.Common.{length, arith}
use Rattle.std.proofs.lemmas.Bool.{false_from_ne_true, eqb-true}
use Rattle.std.proofs.lemmas.List.Sums.{position_or_len_is}
use Rattle.status_reading.proofs.CutSteps.{cut_parts, cut_none}
use Rattle.log_reading.proofs.cuts.cut.Goals as goal

pub returns-in_err-index : goal.returns-in_err-index
returns-in_err-index c =
    let at = position_or_len_is _ c.args.text.now (length c.args.text.now) 0 (omega arith) (λ k low. false_from_ne_true _ (c.in_err-index.ensures k (omega arith) low)) (λ low. absurd (omega arith)) in
    rw c.from_residual.ensures (cut_none c.args.byte c.args.text.now at)

pub returns : goal.returns
returns c =
    let found = c.in_ok-index.ensures in
    let at = position_or_len_is _ c.args.text.now c.in_ok-index.index 0 (omega (arith, found.0.high)) (λ k low. false_from_ne_true _ (found.0.before k (omega arith) low)) (λ low. found.1) in
    cut_parts c.args.byte c.args.text.now c.in_ok-index.index at found.0.high (eqb-true _ _ found.1)
