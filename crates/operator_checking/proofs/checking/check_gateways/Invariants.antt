use Rattle.std.proofs.Common.{◌≡◌, length}
use Rattle.operator_checking.proofs.checking.check_gateways.Given as goal

abbrev pub invariant-loop-text : goal.invariant-loop-text
invariant-loop-text g l = length l.pages.items ≡ l.text-index
