use Rattle.std.proofs.Common.{◌≡◌}
use Rattle.show_books.proofs.downtime.show_gone.Given as goal

abbrev pub invariant-loop : goal.invariant-loop
invariant-loop g l = l.book.objects ≡ 2
