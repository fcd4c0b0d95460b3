use Rattle.std.proofs.Common.{ap, map, ◌++◌, ◌∙◌}
use Rattle.std.specs.VecDeque.Iter.{deque_iter_rest}
use Rattle.desk_outbox.specs.declared.labels.Label.{Label}
use Rattle.desk_outbox.specs.Labels.{LabelledView}
use Rattle.desk_outbox.specs.Showing.{is_of, unsent}
use Rattle.desk_outbox.specs.inner.Rows.{unsent_row}
use Rattle.desk_outbox.proofs.ShowSteps.{shown_step}
use Rattle.desk_outbox.proofs.showing.push_waiting.Goals as goal

pub loop-order-preserved : goal.loop-order-preserved
loop-order-preserved c =
    let asked = c.args.asked.now in
    let label_of : LabelledView → Label = λ order. order.label in
    shown_step (is_of asked) (unsent asked) c.in-Some.order.now.label (map label_of (deque_iter_rest c.loop-order.order-iterator))
    (map label_of (deque_iter_rest c.next.new.self)) c.loop-order.shown.items c.push_unsent.new.shown.items _
    (ap (map label_of) c.in-Some.ensures.steps)
    (c.in_ok-push_unsent.ensures ∙ ap (λ (label : Label). c.loop-order.shown.items ++ unsent_row asked label) c.label.ensures.label)
    c.loop-order.invariant
