use Rattle.std.proofs.Common.{◌≡◌, false, not}
use Rattle.std.specs.Prelude.{count_by}
use Rattle.gate_model.specs.declared.downtime.Entry.{Entry}
use Rattle.gate_downtime.specs.Book.{was_returned}
use Rattle.gate_applier.specs.inner.Books.{ReturnsGone}
use Rattle.gate_applier.proofs.books.drain_gone.Given as goal

abbrev pub invariant-gone : goal.invariant-gone
invariant-gone l = record {
  returned : ReturnsGone l.fn.downtime l.downtime;
  none : l.any ≡ false → l.downtime ≡ l.fn.downtime;
}

-- how many entries were not returned yet
abbrev pub decreases-gone : goal.decreases-gone
decreases-gone l = count_by (λ (entry : Entry). not (was_returned l.downtime.returned entry.scheduled.id)) l.downtime.entries
