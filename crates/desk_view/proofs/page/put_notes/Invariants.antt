use Rattle.std.proofs.Common.{◌≡◌, ◌++◌, drop}
use Rattle.std.specs.List.{flat_map}
use Rattle.status_view.specs.Filling.{html_bytes}
use Rattle.desk_view.specs.Page.{note_parts}
use Rattle.desk_view.proofs.page.put_notes.Given as goal

abbrev pub invariant-loop-note : goal.invariant-loop-note
invariant-loop-note l =
    l.html ++ html_bytes (flat_map note_parts (drop l.note-index l.notes))
    ≡ l.initial.html ++ html_bytes (flat_map note_parts l.notes)
