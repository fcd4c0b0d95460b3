use Rattle.log_reading.proofs.LastCut.{none_held, last_parts}
use Rattle.log_reading.proofs.cuts.cut_last.Goals as goal

pub returns-in_err-index : goal.returns-in_err-index
returns-in_err-index c = rw c.from_residual.ensures (none_held c.args.byte c.args.text.now c.in_err-index.ensures)

pub returns : goal.returns
returns c =
    let found = c.in_ok-index.ensures in
    last_parts c.args.byte c.args.text.now c.in_ok-index.index found.0.high found.1 found.0.after
