use Rattle.std.proofs.Common.{◌≡◌, ◌++◌, map}
use Rattle.std.specs.Prelude.{filter}
use Rattle.std.specs.VecDeque.Iter.{deque_iter_rest}
use Rattle.desk_outbox.specs.Labels.{LabelledView}
use Rattle.desk_outbox.specs.Showing.{is_of, unsent}
use Rattle.desk_outbox.proofs.showing.push_waiting.Given as goal

abbrev pub invariant-loop-order : goal.invariant-loop-order
invariant-loop-order l =
    l.shown.items ++ map (unsent l.asked) (filter (is_of l.asked) (map (λ (order : LabelledView). order.label) (deque_iter_rest l.order-iterator)))
    ≡ l.initial.shown.items ++ map (unsent l.asked) (filter (is_of l.asked) (map (λ (order : LabelledView). order.label) l.waiting.items))
