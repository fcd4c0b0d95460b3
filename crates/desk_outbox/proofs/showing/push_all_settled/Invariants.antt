use Rattle.std.proofs.Common.{◌≡◌, ◌++◌, map}
use Rattle.std.specs.Prelude.{filter}
use Rattle.desk_outbox.specs.Showing.{shown_settled, is_asked}
use Rattle.desk_outbox.proofs.showing.push_all_settled.Given as goal

abbrev pub invariant-loop-settled : goal.invariant-loop-settled
invariant-loop-settled l =
    l.shown.items ++ map (shown_settled l.asked) (filter (is_asked l.asked) l.settled-iterator)
    ≡ l.initial.shown.items ++ map (shown_settled l.asked) (filter (is_asked l.asked) l.all.items)
