use Rattle.std.proofs.Common.{◌≡◌, ◌++◌, map, drop}
use Rattle.desk_forms.specs.Marks.{marks_of}
use Rattle.desk_forms.proofs.marks.read_marks.Given as goal

abbrev pub invariant-loop-field : goal.invariant-loop-field
invariant-loop-field l =
    map (λ mark. mark.now) l.marks.items ++ marks_of (drop l.field-index l.fields) ≡ marks_of l.fields
