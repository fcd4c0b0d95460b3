use Rattle.std.proofs.Common.{◌≡◌, ◌≤◌, drop, length, min, arith}
use Rattle.std.proofs.lemmas.List.{length-take, length-append, length-drop}
use Rattle.gate_kept.proofs.ByteSteps.{read_some, nothing_left}
use Rattle.gate_kept.proofs.first.KeptBytesSource.take_some.Goals as goal

pub returns-clause-bytes : goal.returns-clause-bytes
returns-clause-bytes c =
    let left = c.left-left.result.now in
    let least : c.min-count.result ≡ min (length left) (length c.args.buf.now) = c.min-count.ensures in
    let few : c.min-count.result ≤ length left = omega (arith, least) in
    let long : length c.copy_from_slice.new.self ≡ c.min-count.result = omega (arith, c.copy_from_slice.ensures.len, length-take c.min-count.result c.args.buf.now, least) in (
      read_some c.args.self.now.bytes c.bytes-size.result.now left c.copy_from_slice.new.self (drop c.min-count.result c.args.buf.now) c.args.self.now.read c.min-count.result
          c.bytes-size.ensures c.left-left.ensures.left c.copy_from_slice.ensures.after long few,
      λ none some. nothing_left c.args.self.now.bytes c.bytes-size.result.now left c.args.self.now.read c.min-count.result (length c.args.buf.now) c.bytes-size.ensures c.left-left.ensures.left least none
          (omega (arith, some, length-append c.copy_from_slice.new.self (drop c.min-count.result c.args.buf.now), length-drop c.min-count.result c.args.buf.now, long, least)),
    )
