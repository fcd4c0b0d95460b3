use Rattle.std.proofs.Common.{◌≡◌}
use Rattle.log_reading.proofs.LineSteps.{line_test}
use Rattle.log_reading.proofs.lines.is_line_of.Goals as goal

pub returns : goal.returns
returns c =
    let same : c.deref.result.now ≡ c.in_ok-line.line.items = cc in
    line_test c.is_word.result c.args.text.now c.deref.result.now c.in_ok-line.line.items _ c.is_word.ensures same c.in_ok-line.ensures
