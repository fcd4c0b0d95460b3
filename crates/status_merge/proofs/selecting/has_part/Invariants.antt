use Rattle.std.proofs.Common.{◌≡◌, drop}
use Rattle.status_merge.specs.Selecting.{has_part}
use Rattle.status_merge.proofs.selecting.has_part.Given as goal

abbrev pub invariant-loop-place : goal.invariant-loop-place
invariant-loop-place l = has_part (drop l.place l.text) l.part ≡ has_part l.text l.part
