use Rattle.std.proofs.Common.{length}
use Rattle.show_packets.proofs.show_whole.Given as goal

abbrev pub decreases-loop-block : goal.decreases-loop-block
decreases-loop-block g l = length l.cutter
