use Rattle.std.proofs.Common.{◌≡◌, drop}
use Rattle.statusdesk.specs.Commanding.{first_code}
use Rattle.statusdesk.proofs.commanding.first_code.Given as goal

abbrev pub invariant-loop-done : goal.invariant-loop-done
invariant-loop-done l = first_code (drop l.done-index l.all) ≡ first_code l.all
