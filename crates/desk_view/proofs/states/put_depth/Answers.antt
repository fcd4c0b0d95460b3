use Rattle.std.proofs.Common.{◌≡◌, true, arith}
use Rattle.std.specs.Prelude.{nat_lt}
use Rattle.std.proofs.lemmas.Bool.Decides.{nat_tests}
use Rattle.desk_view.specs.Page.{depth_parts}
use Rattle.desk_view.proofs.states.put_depth.Goals as goal

pub returns-then-depth-gt0 : goal.returns-then-depth-gt0
unfolding depth_parts
returns-then-depth-gt0 c =
    let is : nat_lt 0 c.args.depth ≡ true = grind (arith, nat_tests, c.if-depth-gt0.true) in
    rw (is, ← c.from.ensures) c.put.ensures
