use Rattle.std.proofs.Common.{◌<◌, length, arith}
use Rattle.gate_replay.proofs.ReplayTexts.{whole_text}
use Rattle.gate_replay.proofs.replay.read_input.Goals as goal

pub returns-clause-whole : goal.returns-clause-whole
returns-clause-whole g c =
    let few : length c.read_to_end.new.buf.items < c.take-input.result.limit = omega (arith, c.read_to_end.new.buf.ok.0, c.len.ensures, c.take-input.ensures.limit) in
    whole_text (g.I.Read.remaining c.args.input.now) c.new-text.result.items c.read_to_end.new.buf.items c.take-input.result.limit c.new-text.ensures.items (rw c.take-input.ensures.inner at c.in-Ok.ensures.bytes) few
