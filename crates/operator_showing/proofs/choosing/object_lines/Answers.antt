use Rattle.std.proofs.Common.{rules, tests}
use Rattle.std.specs.List.{slice_split}
use Rattle.std.specs.Slice.Iter.{split_steps}
use Rattle.std.proofs.lemmas.Iterator.Adapters.{YieldsList-from_skip}
use Rattle.std.proofs.lemmas.Iterator.Consumers.{map_from_collect}
use Rattle.std.proofs.lemmas.Iterator.Splits.{YieldsList-from_slice_split}
use Rattle.operator_showing.specs.Choosing.{is_line_end}
use Rattle.operator_showing.proofs.choosing.object_lines.Goals as goal

pub returns : goal.returns
returns c =
    map_from_collect _ c.collect.ensures.ran
    (YieldsList-from_skip {steps = split_steps _} {ys = slice_split is_line_end c.args.text.now} {s = c.skip.result} 1
    (rw c.skip.ensures.source
    (YieldsList-from_slice_split _ is_line_end c.args.text.now c.split.ensures.rest c.split.ensures.done c.split.ensures.closure (λ x b q h. search (rules, tests))))
    c.skip.ensures.count)
