use Rattle.std.proofs.Common.{refl}
use Rattle.gate_replay.specs.inner.Playing.{solo_view}
use Rattle.gate_replay.proofs.Drains.{takes_item, takes_nothing, take_stopped}
use Rattle.gate_replay.proofs.player.Player.take_one.Goals as goal

pub returns-in-Some-clause-taken : goal.returns-in-Some-clause-taken
returns-in-Some-clause-taken g c =
    takes_item (solo_view g.D.SoloQueue.after g.D.SoloQueue.limits) c.args.self _ c.in-Ok.ready c.apply-applier.result.0 c.take-queue.result.1 c.in-Some.item c.in-Some.is c.in-Ok.ensures.room c.in-Ok.ensures.ready c.take-queue.ensures.after c.take-queue.ensures.limits
    c.apply-applier.ensures.records c.apply-applier.ensures.moment c.apply-applier.ensures.table c.apply-applier.ensures.opening c.apply-applier.ensures.limit refl refl refl refl

pub returns-in-None-clause-taken : goal.returns-in-None-clause-taken
returns-in-None-clause-taken g c =
    takes_nothing (solo_view g.D.SoloQueue.after g.D.SoloQueue.limits) c.args.self _ c.in-Ok.ready c.take-queue.result.1 c.in-None.is c.in-Ok.ensures.room c.in-Ok.ensures.ready c.take-queue.ensures.after c.take-queue.ensures.limits c.give_back-applier.ensures refl refl refl

pub returns-in-Err-clause-stopped : goal.returns-in-Err-clause-stopped
returns-in-Err-clause-stopped g c =
    take_stopped (solo_view g.D.SoloQueue.after g.D.SoloQueue.limits) (solo_view g.D.Ended.EndedQueue.after g.D.Ended.EndedQueue.limits) c.args.self c.in-Err.stop (record { rest = c.end-ended.result; after = c.end-ended.ensures.after; limits_are = c.end-ended.ensures.limits }) c.in-Err.ensures.stopped
