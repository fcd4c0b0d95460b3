use Rattle.std.proofs.Common.{◌≡◌, ◌<◌, ◌==◌, ◌∙◌, ap, not, get_or, length, arith}
use Rattle.desk_guard.proofs.TokenSteps.{differences, none_differs, one_more, none_left, small}
use Rattle.desk_guard.proofs.token.is_same.Goals as goal

pub loop-index-preserved : goal.loop-index-preserved
loop-index-preserved c =
    let one = c.args.one.now in
    let other = c.args.other.now in
    let index = c.loop-index.index in
    let within : index < length other = omega arith in
    let step = one_more one other index c.loop-index-test.true within in
    let least = small (not (get_or one index 0 == get_or other index 0)) in
    record {
      few = omega (arith, least, c.from-differing.ensures, c.loop-index.invariant.few);
      so_far = omega (arith, step, c.from-differing.ensures, c.loop-index.invariant.so_far);
    }

pub returns : goal.returns
returns c =
    let one = c.args.one.now in
    let other = c.args.other.now in
    let none = none_left one other c.loop-index.index c.loop-index-test.false in
    let total : c.loop-index.differing ≡ differences one other = omega (arith, none, c.loop-index.invariant.so_far) in
    let sized : length one ≡ length other = omega arith in
    ap (λ count. count == 0) total ∙ none_differs one other sized
