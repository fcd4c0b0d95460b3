use Rattle.std.specs.Vec.Iter.{into_iter_items}
use Rattle.status_memory.proofs.HistorySteps.{kept_step}
use Rattle.status_memory.proofs.history.keep.Goals as goal

pub loop-change-preserved-in-Some : goal.loop-change-preserved-in-Some
loop-change-preserved-in-Some c =
    let step = kept_step c.loop-change.kept c.push_back.new.self (into_iter_items c.loop-change.change-iterator)
    (into_iter_items c.next.new.self) c.in-Some.change _ c.loop-change.invariant.room c.push_back.ensures.items
    c.in-Some.ensures.steps.0 c.loop-change.invariant.kept in
    record { room = step.0; kept = step.1 }

pub loop-change-preserved : goal.loop-change-preserved
loop-change-preserved c =
    let step = kept_step c.loop-change.kept c.push_back.new.self (into_iter_items c.loop-change.change-iterator)
    (into_iter_items c.next.new.self) c.in-Some.change _ c.loop-change.invariant.room c.push_back.ensures.items
    c.in-Some.ensures.steps.0 c.loop-change.invariant.kept in
    record { room = step.0; kept = step.1 }
