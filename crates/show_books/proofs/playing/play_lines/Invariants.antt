use Rattle.std.proofs.Common.{◌≡◌, length}
use Rattle.show_books.proofs.playing.play_lines.Given as goal

abbrev pub invariant-loop-line : goal.invariant-loop-line
invariant-loop-line g l = (length l.books.objects.statuses ≡ 2) × (l.books.downtime.objects ≡ 2)
