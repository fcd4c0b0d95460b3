use Rattle.desk_outbox.specs.Showing.{shown_settled, is_asked}
use Rattle.desk_outbox.proofs.ShowSteps.{shown_step}
use Rattle.desk_outbox.proofs.showing.push_all_settled.Goals as goal

pub loop-settled-preserved : goal.loop-settled-preserved
loop-settled-preserved c =
    shown_step (is_asked c.args.asked.now) (shown_settled c.args.asked.now) c.in-Some.settled.now _ _
    c.loop-settled.shown.items c.push_settled.new.shown.items _ c.in-Some.ensures.steps c.in_ok-push_settled.ensures
    c.loop-settled.invariant
