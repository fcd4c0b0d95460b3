use Rattle.std.proofs.Common.{◌≡◌, drop}
use Rattle.desk_forms.specs.Fields.{given}
use Rattle.desk_forms.proofs.lookup.given.Given as goal

abbrev pub invariant-loop-field : goal.invariant-loop-field
invariant-loop-field l = given l.name (drop l.field-index l.fields) ≡ given l.name l.fields
