use Rattle.std.proofs.Common.{◌≡◌, take}
use Rattle.gate_objects.specs.Book.{new_statuses}
use Rattle.gate_objects.proofs.book.statuses_of.Given as goal

abbrev pub invariant-loop-place : goal.invariant-loop-place
invariant-loop-place l = l.statuses.items ≡ new_statuses 0 (take l.place l.table)
