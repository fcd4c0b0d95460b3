use Rattle.std.proofs.Common.{List, ℕ, ap, ◌∙◌, sym}
use Rattle.status_merge.specs.Selecting.{begins}
use Rattle.status_merge.proofs.SelectingSteps.{found_at, missed_at, rest_of, ended}
use Rattle.status_merge.proofs.selecting.has_part.Goals as goal

pub returns-then-begins : goal.returns-then-begins
returns-then-begins c =
    let text = c.args.text.now in
    let part = c.args.part.now in
    let begun = c.begins.ensures ∙ ap (λ (rest : List ℕ). begins rest part) (rest_of text c.loop-place.place) in
    found_at text part c.loop-place.place c.loop-place.invariant (sym begun ∙ c.if-begins.true)

pub loop-place-preserved : goal.loop-place-preserved
loop-place-preserved c =
    let text = c.args.text.now in
    let part = c.args.part.now in
    let begun = c.begins.ensures ∙ ap (λ (rest : List ℕ). begins rest part) (rest_of text c.loop-place.place) in
    missed_at text part c.loop-place.place c.loop-place-test.true c.loop-place.invariant (sym begun ∙ c.if-begins.false)

pub returns : goal.returns
returns c =
    c.begins-2.ensures
    ∙ ended c.args.text.now c.args.part.now c.loop-place.place c.loop-place-test.false c.loop-place.invariant
