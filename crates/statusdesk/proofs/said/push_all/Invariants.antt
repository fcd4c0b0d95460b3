use Rattle.std.proofs.Common.{◌≡◌, ◌++◌, map}
use Rattle.std.specs.Vec.Iter.{into_iter_items}
use Rattle.statusdesk.specs.Notes.{said_view}
use Rattle.statusdesk.proofs.said.push_all.Given as goal

abbrev pub invariant-loop-one : goal.invariant-loop-one
invariant-loop-one l =
    map said_view l.said.items ++ map said_view (into_iter_items l.one-iterator)
    ≡ map said_view l.initial.said.items ++ map said_view l.fn.more.items
