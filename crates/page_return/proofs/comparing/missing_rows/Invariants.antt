use Rattle.std.proofs.Common.{◌≡◌, ◌++◌, drop}
use Rattle.page_return.specs.Missing.{missing_from}
use Rattle.page_return.proofs.comparing.missing_rows.Given as goal

abbrev pub invariant-loop-index : goal.invariant-loop-index
invariant-loop-index g l =
    l.missing.items ++ missing_from g.T.Again.same l.index (drop l.index l.kept) l.rest ≡ missing_from g.T.Again.same 0 l.kept l.shown
