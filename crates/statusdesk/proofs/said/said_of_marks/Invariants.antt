use Rattle.std.proofs.Common.{◌≡◌, ◌++◌, map}
use Rattle.std.specs.List.{flat_map, zip}
use Rattle.std.specs.Slice.Iter.{iter_rest}
use Rattle.statusdesk.specs.Notes.{said_view}
use Rattle.statusdesk.specs.Said.{said_of_mark, said_of_marks}
use Rattle.statusdesk.specs.Marking.{dones_in}
use Rattle.statusdesk.proofs.MarkSteps.{texts_in}
use Rattle.statusdesk.proofs.said.said_of_marks.Given as goal

abbrev pub invariant-loop-mark : goal.invariant-loop-mark
invariant-loop-mark l =
    map said_view l.said.items
    ++ flat_map (said_of_mark l.seen)
    (zip (texts_in (iter_rest l.mark-iterator.a)) (dones_in (iter_rest l.mark-iterator.b)))
    ≡ said_of_marks l.seen (texts_in l.marks) (dones_in l.all)
