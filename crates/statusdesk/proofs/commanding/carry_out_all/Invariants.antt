use Rattle.std.proofs.Common.{◌≡◌, List, drop, ◌++◌}
use Rattle.statusdesk.specs.declared.commanding.Done.{Done}
use Rattle.statusdesk.specs.Taking.{posted_in}
use Rattle.statusdesk.specs.Commanding.{AreDone}
use Rattle.statusdesk.proofs.commanding.carry_out_all.Given as goal

abbrev pub invariant-loop-at : goal.invariant-loop-at
invariant-loop-at g l = record {
  done : (more : List Done) → AreDone l.now l.form (drop l.at-index l.pages) more
      → AreDone l.now l.form l.pages (l.all.items ++ more);
  taken : l.intake ≡ l.initial.intake ++ posted_in l.all.items;
}
