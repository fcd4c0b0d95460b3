use Rattle.gate_replay.specs.inner.Playing.{solo_view}
use Rattle.gate_replay.proofs.ReplayEnds.{log_ends, full_ends, memory_ends}
use Rattle.gate_replay.proofs.replay.play_over.Goals as goal

pub returns-in-Ok-play : goal.returns-in-Ok-play
returns-in-Ok-play g c =
    let state = g.W.Sink.state in
    let played = rw c.deref.ensures.value at c.in-Ok-play.ensures.played in
    log_ends (solo_view g.D.SoloQueue.after g.D.SoloQueue.limits) (solo_view g.D.Ended.EndedQueue.after g.D.Ended.EndedQueue.limits) c.print_page.result c.args.script c.in-Ok-play.player c.end-applier.result (state c.args.output.now) (state c.play.new.output) (state c.print_page.new.output)
    c.end-applier.ensures.applier c.end-applier.ensures.ended (played c.args.script.setup c.in-Ok.ensures.begun) c.print_page.ensures.ok c.print_page.ensures.err

pub returns-in-Err-Full : goal.returns-in-Err-Full
returns-in-Err-Full g c =
    let state = g.W.Sink.state in
    let stopped = rw (c.in-Err-Full.field-0-is, c.deref.ensures.value) at c.in-Err-Full.ensures.stopped in
    full_ends (solo_view g.D.SoloQueue.after g.D.SoloQueue.limits) (solo_view g.D.Ended.EndedQueue.after g.D.Ended.EndedQueue.limits) c.print_page-printed.result c.fault_after.result c.args.script c.in-Err-Full.applier (state c.args.output.now) (state c.play.new.output) (state c.print_page-printed.new.output)
    (stopped c.args.script.setup c.in-Ok.ensures.begun) c.print_page-printed.ensures.ok c.print_page-printed.ensures.err c.fault_after.ensures.ok c.fault_after.ensures.err

pub returns-in-Err-OutOfMemory : goal.returns-in-Err-OutOfMemory
returns-in-Err-OutOfMemory g c =
    let state = g.W.Sink.state in
    let stopped = rw (c.in-Err-OutOfMemory.field-0-is, c.deref.ensures.value) at c.in-Err-OutOfMemory.ensures.stopped in
    memory_ends (solo_view g.D.SoloQueue.after g.D.SoloQueue.limits) (solo_view g.D.Ended.EndedQueue.after g.D.Ended.EndedQueue.limits) c.print_page-printed-in-Err-OutOfMemory.result c.fault_after-in-Err-OutOfMemory.result c.args.script c.in-Err-OutOfMemory.applier (state c.args.output.now) (state c.play.new.output) (state c.print_page-printed-in-Err-OutOfMemory.new.output)
    (stopped c.args.script.setup c.in-Ok.ensures.begun) c.print_page-printed-in-Err-OutOfMemory.ensures.ok c.print_page-printed-in-Err-OutOfMemory.ensures.err c.fault_after-in-Err-OutOfMemory.ensures.ok c.fault_after-in-Err-OutOfMemory.ensures.err

pub end-applier-requires : goal.end-applier-requires
end-applier-requires g c =
    let played = rw c.deref.ensures.value at c.in-Ok-play.ensures.played in
    let h = played c.args.script.setup c.in-Ok.ensures.begun in
    (_, h.ends.holds.after)
