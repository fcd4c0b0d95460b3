use Rattle.std.proofs.Common.{arith}
use Rattle.gate_turns.proofs.CountSteps.{connections-le-length, connections-le-count}
use Rattle.gate_turns.proofs.counts.most_from.Goals as goal

pub returns-then-count-lt65535 : goal.returns-then-count-lt65535
returns-then-count-lt65535 c =
    connections-le-count c.args.peers.now c.args.counts.now c.args.address c.remainder_of.result c.from.result c.requires.counted
    c.remainder_of.ensures (omega arith) c.from.ensures (omega arith)

pub returns-else-count-lt65535 : goal.returns-else-count-lt65535
returns-else-count-lt65535 c = connections-le-length c.args.peers.now c.args.address
