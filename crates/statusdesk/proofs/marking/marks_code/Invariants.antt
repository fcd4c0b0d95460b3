use Rattle.std.proofs.Common.{◌≡◌, drop}
use Rattle.statusdesk.specs.Marking.{marks_code, dones_in}
use Rattle.statusdesk.proofs.marking.marks_code.Given as goal

abbrev pub invariant-loop-one : goal.invariant-loop-one
invariant-loop-one l = marks_code (dones_in (drop l.one-index l.all)) ≡ marks_code (dones_in l.all)
