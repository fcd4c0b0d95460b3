use Rattle.std.proofs.Common.{◌≡◌, ◌++◌, drop}
use Rattle.std.specs.Prelude.{filter}
use Rattle.desk_forms.specs.Marks.{is_shared}
use Rattle.desk_forms.proofs.marks.push_shared.Given as goal

abbrev pub invariant-loop-one : goal.invariant-loop-one
invariant-loop-one l =
    l.shared.items ++ filter is_shared (drop l.one-index l.fields) ≡ l.initial.shared.items ++ filter is_shared l.fields
