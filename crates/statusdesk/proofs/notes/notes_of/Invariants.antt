use Rattle.std.proofs.Common.{◌≡◌, ◌++◌, map, drop}
use Rattle.statusdesk.specs.Notes.{said_view, note_of, note_view}
use Rattle.statusdesk.proofs.notes.notes_of.Given as goal

abbrev pub invariant-loop-one : goal.invariant-loop-one
invariant-loop-one l =
    map note_view l.notes.items ++ map note_of (map said_view (drop l.one-index l.said)) ≡ map note_of (map said_view l.said)
