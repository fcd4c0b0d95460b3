use Rattle.std.proofs.Common.{arith, sym, length-take}
use Rattle.std.proofs.lemmas.List.{take_all}
use Rattle.desk_view.proofs.marks.first_rows.Goals as goal

pub slice_bounds-result-end : goal.slice_bounds-result-end
slice_bounds-result-end c = omega (arith, length-take 256 c.args.rows.now)

pub returns-else-rows-gt-MOST_ROWS : goal.returns-else-rows-gt-MOST_ROWS
returns-else-rows-gt-MOST_ROWS c = sym (take_all 256 c.args.rows.now c.if-rows-gt-MOST_ROWS.false)
