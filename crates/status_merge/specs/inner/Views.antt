-- What the proofs of private functions alone need: a group's rows as a list.
use Rattle.std.specs.Prelude.{List}
use Rattle.status_merge.specs.declared.groups.Group.{Group}

-- its first row, and all its rows
abbrev pub group_view : {R : Type 0} → Group R → R × List R
group_view group = (group.first, group.rows.items)
