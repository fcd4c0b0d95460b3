use Rattle.std.proofs.Common.{◌≡◌, ◌++◌}
use Rattle.statusdesk.specs.Taking.{all_posted}
use Rattle.statusdesk.specs.Marking.{dones_in}
use Rattle.statusdesk.proofs.MarkSteps.{IsLeft}
use Rattle.statusdesk.proofs.marking.carry_out_marks.Given as goal

abbrev pub invariant-loop-mark : goal.invariant-loop-mark
invariant-loop-mark g l = record {
  done : IsLeft l.now l.form l.pages l.marks l.mark-index (dones_in l.all.items);
  taken : l.intake ≡ l.initial.intake ++ all_posted (dones_in l.all.items);
}
