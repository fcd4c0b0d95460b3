use Rattle.std.proofs.Common.{◌+◌, ◌++◌, Some, drop, map, ap, sym, ◌∙◌}
use Rattle.std.proofs.lemmas.Result.{err_from_is_err_and}
use Rattle.status_reading.specs.Rows.{page_view}
use Rattle.operator_effects.specs.Commands.{deletion}
use Rattle.operator_effects.proofs.CommandSteps.{one_more, all_made, bad_id}
use Rattle.operator_effects.proofs.commands.deletions.Goals as goal

pub loop-word-preserved : goal.loop-word-preserved
loop-word-preserved c =
    let words = c.args.words.now in
    let made_of = deletion c.args.deleted (page_view c.args.page.now) in
    ap (λ made. map Some made ++ map made_of (drop (c.loop-word.word-index + 1) words)) c.in_ok-push.ensures.items
    ∙ one_more made_of c.loop-word.bodies.items c.in_ok-deletion.field-0 words c.loop-word.word-index c.word-item.result
    c.loop-word-test.true (ap made_of (sym c.word-item.is) ∙ c.in_ok-deletion.ensures.body) c.loop-word.invariant

pub returns-clause-bodies : goal.returns-clause-bodies
returns-clause-bodies c =
    all_made (deletion c.args.deleted (page_view c.args.page.now)) c.loop-word.bodies.items c.args.words.now c.loop-word.word-index
    c.loop-word-test.false c.loop-word.invariant

pub returns-in_err-deletion-clause-fault : goal.returns-in_err-deletion-clause-fault
returns-in_err-deletion-clause-fault c =
    let p = err_from_is_err_and c.from_residual.result c.from_residual.ensures.1 in
    rw (p.1, p.2) (
    λ other. bad_id c.args.words.now c.loop-word.word-index c.word-item.result c.in_err-deletion.field-0.0 c.loop-word-test.true
    c.word-item.is c.in_err-deletion.ensures.fault.1 c.in_err-deletion.ensures.fault.0
    )
