use Rattle.page_watching.proofs.WatchSteps.{seen_more}
use Rattle.page_watching.proofs.watching.Watch.seen.Goals as goal

pub loop-watched-preserved : goal.loop-watched-preserved
loop-watched-preserved g c =
    seen_more c.as_slice-watched-items.result.now c.loop-watched.watched-index c.loop-watched.seen.items
    c.push.new.self.items c.watched-item.result c.in_ok-seen.field-0 c.loop-watched-test.true c.watched-item.is
    c.in_ok-seen.ensures c.in_ok-push.ensures.items c.loop-watched.invariant
