use Rattle.std.proofs.Common.{◌≡◌}
use Rattle.show_books.proofs.downtime.schedule_stairs.Given as goal

abbrev pub invariant-loop-number : goal.invariant-loop-number
invariant-loop-number g l = l.book.objects ≡ 2
