use Rattle.std.proofs.Common.{◌≡◌, drop}
use Rattle.page_return.specs.Missing.{after_same}
use Rattle.page_return.proofs.comparing.after_same.Given as goal

abbrev pub invariant-loop-index : goal.invariant-loop-index
invariant-loop-index g l = after_same g.T.Again.same l.row (drop l.index l.shown) ≡ after_same g.T.Again.same l.row l.shown
