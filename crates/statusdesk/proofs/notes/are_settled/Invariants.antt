use Rattle.std.proofs.Common.{◌≡◌, map, drop}
use Rattle.statusdesk.specs.Notes.{said_view, are_settled}
use Rattle.statusdesk.proofs.notes.are_settled.Given as goal

abbrev pub invariant-loop-one : goal.invariant-loop-one
invariant-loop-one l = are_settled (map said_view (drop l.one-index l.said)) ≡ are_settled (map said_view l.said)
