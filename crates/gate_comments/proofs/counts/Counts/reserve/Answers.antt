use Rattle.std.proofs.Common.{arith}
use Rattle.gate_comments.proofs.CountSteps.{counted-grown}
use Rattle.gate_comments.proofs.counts.Counts.reserve.Goals as goal

pub returns-in_ok-resize-clause-counted : goal.returns-in_ok-resize-clause-counted
returns-in_ok-resize-clause-counted c =
    counted-grown c.args.self.now.places.items c.resize.new.self.items _ c.args.self.now.downtimes
    (omega (arith, c.if-len-lt-BUCKETS.true, c.len.ensures, c.args.self.now.places.ok.0)) c.in_ok-resize.ensures.items
