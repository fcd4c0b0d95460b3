use Rattle.std.proofs.Common.{◌-◌, length}
use Rattle.gate_replay.specs.inner.Playing.{solo_view}
use Rattle.gate_replay.proofs.Drains.{DrainsOn}
use Rattle.gate_replay.proofs.player.Player.drain.Given as goal

abbrev pub invariant-loop-player : goal.invariant-loop-player
invariant-loop-player g l = DrainsOn (solo_view g.D.SoloQueue.after g.D.SoloQueue.limits) l.fn.self l.player

abbrev pub decreases-loop-player : goal.decreases-loop-player
decreases-loop-player g l = l.player.queued - length l.player.applier.records
