use Rattle.std.proofs.Common.{◌<◌, length, arith}
use Rattle.gate_start.proofs.KeptSteps.{read_whole}
use Rattle.gate_start.proofs.keeping.read_text.Goals as goal

pub returns : goal.returns
returns g c =
    let few : length c.read_to_end.new.buf.items < c.take-input.result.limit = omega (arith, c.read_to_end.new.buf.ok.0, c.len.ensures, c.take-input.ensures.limit) in
    record {
      all = read_whole (g.R.Read.remaining c.args.input.now) c.new-text.result.items c.read_to_end.new.buf.items c.take-input.result.limit c.new-text.ensures.items (rw c.take-input.ensures.inner at c.in-Ok.ensures.bytes) few;
      short = omega (arith, c.read_to_end.new.buf.ok.0, c.len.ensures, c.if-len-gt-GREATEST.false);
    }
