use Rattle.std.proofs.Common.{◌≡◌, ◌++◌, map}
use Rattle.std.specs.List.{flat_map, zip}
use Rattle.std.specs.Slice.Iter.{iter_rest}
use Rattle.status_merge.specs.Asking.{asked_by}
use Rattle.operator_showing.specs.Choosing.{chosen_line, chosen_text}
use Rattle.operator_showing.proofs.choosing.chosen_text.Given as goal

abbrev pub invariant-loop-line : goal.invariant-loop-line
invariant-loop-line l =
    l.text.items
    ++ flat_map (chosen_line (asked_by l.query))
    (zip (map (λ line. line.now) (iter_rest l.line-iterator.a)) (iter_rest l.line-iterator.b))
    ≡ chosen_text (asked_by l.query) (map (λ line. line.now) l.lines) l.objects
