use Rattle.std.proofs.Common.{length, ap, arith}
use Rattle.gate_replay.specs.inner.Playing.{solo_view}
use Rattle.gate_replay.proofs.Drains.{drains_self, drains_missed, drains_more, drains_none, fewer_left, takes_true, takes_false, drain_stopped}
use Rattle.gate_replay.proofs.player.Player.drain.Goals as goal

pub loop-player-init : goal.loop-player-init
loop-player-init g c = drains_self (solo_view g.D.SoloQueue.after g.D.SoloQueue.limits) c.args.self

pub returns-clause-drained : goal.returns-clause-drained
returns-clause-drained g c = drains_none (solo_view g.D.SoloQueue.after g.D.SoloQueue.limits) c.args.self c.loop-player.player (omega (arith, ap length c.records.ensures.records)) c.loop-player.invariant

pub returns-in-Err-clause-stopped : goal.returns-in-Err-clause-stopped
returns-in-Err-clause-stopped g c =
    drain_stopped (solo_view g.D.SoloQueue.after g.D.SoloQueue.limits) (solo_view g.D.Ended.EndedQueue.after g.D.Ended.EndedQueue.limits) c.args.self c.loop-player.player c.in-Err.stop (omega (arith, ap length c.records.ensures.records)) c.records.ensures.few c.loop-player.invariant c.in-Err.ensures.stopped

pub returns-then-not-turn-clause-drained : goal.returns-then-not-turn-clause-drained
returns-then-not-turn-clause-drained g c =
    drains_missed (solo_view g.D.SoloQueue.after g.D.SoloQueue.limits) c.args.self c.loop-player.player c.in-Ok.turn.0 (omega (arith, ap length c.records.ensures.records)) c.records.ensures.few
    (takes_false (solo_view g.D.SoloQueue.after g.D.SoloQueue.limits) c.loop-player.player c.in-Ok.turn.0 c.in-Ok.turn.1 c.if-not-turn.true c.in-Ok.ensures.taken) c.loop-player.invariant

pub loop-player-preserved : goal.loop-player-preserved
loop-player-preserved g c =
    drains_more (solo_view g.D.SoloQueue.after g.D.SoloQueue.limits) c.args.self c.loop-player.player c.in-Ok.turn.0 (omega (arith, ap length c.records.ensures.records)) c.records.ensures.few
    (takes_true (solo_view g.D.SoloQueue.after g.D.SoloQueue.limits) c.loop-player.player c.in-Ok.turn.0 c.in-Ok.turn.1 c.if-not-turn.false c.in-Ok.ensures.taken) c.loop-player.invariant

pub loop-player-smaller : goal.loop-player-smaller
loop-player-smaller g c =
    fewer_left (solo_view g.D.SoloQueue.after g.D.SoloQueue.limits) c.loop-player.player c.in-Ok.turn.0 (omega (arith, ap length c.records.ensures.records))
    (takes_true (solo_view g.D.SoloQueue.after g.D.SoloQueue.limits) c.loop-player.player c.in-Ok.turn.0 c.in-Ok.turn.1 c.if-not-turn.false c.in-Ok.ensures.taken)

pub take_one-requires : goal.take_one-requires
take_one-requires g c =
    let r = c.loop-player.invariant c.requires.1.setting c.requires.0 c.requires.1.replayed c.requires.1.shows in
    (r.g.run, r.shows.holds.after)
