use Rattle.std.proofs.Common.{◌≡◌, ◌++◌, map}
use Rattle.std.specs.List.{flat_map, zip}
use Rattle.std.specs.Slice.Iter.{iter_rest}
use Rattle.statusdesk.specs.Notes.{said_view}
use Rattle.statusdesk.specs.Said.{said_if_for, said_of}
use Rattle.statusdesk.proofs.said.said_of.Given as goal

abbrev pub invariant-loop-one : goal.invariant-loop-one
invariant-loop-one l =
    map said_view l.said.items
    ++ flat_map (said_if_for l.names) (zip (iter_rest l.one-iterator.a) (iter_rest l.one-iterator.b))
    ≡ said_of l.names l.seen l.all
