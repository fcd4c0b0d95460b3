use Rattle.std.proofs.Common.{◌≡◌, ◌++◌, drop, map}
use Rattle.operator_restore.specs.Naming.{rows_named}
use Rattle.operator_restore.proofs.naming.push_rows_of.Given as goal

abbrev pub invariant-loop-index : goal.invariant-loop-index
invariant-loop-index l =
    l.out.items ++ rows_named l.front (map (λ line. line.now) l.lines) (drop l.index-index l.indexes)
    ≡ l.fn.out.items ++ rows_named l.front (map (λ line. line.now) l.lines) l.indexes
