use Rattle.std.proofs.Common.{◌≡◌, ◌++◌, drop}
use Rattle.statusdesk.proofs.objects.pages_of.Given as goal

abbrev pub invariant-loop-one : goal.invariant-loop-one
invariant-loop-one l = l.pages.items ++ drop l.one-index l.seen ≡ l.seen
