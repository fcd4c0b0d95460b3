use Rattle.std.proofs.Common.{List, drop, map, ◌++◌}
use Rattle.statusdesk.specs.Objects.{place_of}
use Rattle.statusdesk.specs.Notes.{SaidView, said_view, AreOwn}
use Rattle.statusdesk.proofs.notes.orders_said.Given as goal

abbrev pub invariant-loop-post : goal.invariant-loop-post
invariant-loop-post g l =
    (more : List SaidView) → AreOwn l.asked l.seen (map place_of (drop l.post-index l.posts)) more
    → AreOwn l.asked l.seen (map place_of l.posts) (map said_view l.said.items ++ more)
