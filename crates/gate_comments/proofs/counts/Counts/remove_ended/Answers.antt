use Rattle.std.proofs.Common.{rules, sym, ◌∙◌, arith}
use Rattle.gate_model.specs.declared.comments.Comment.{Comment}
use Rattle.gate_model.specs.Meaning.{outlives}
use Rattle.gate_comments.proofs.CountSteps.{counted-kept, counted-dropped, counted-all}
use Rattle.gate_comments.proofs.counts.Counts.remove_ended.Goals as goal
use Rattle.gate_comments.proofs.counts.Counts.remove_ended.Goals.{then-not-outlives, else-not-outlives}

pub loop-comment-preserved : goal.loop-comment-preserved
loop-comment-preserved g c = elim c.if-not-outlives.branch [
  | then-not-outlives w ↦ record {
    len = search rules;
    counted = λ live tells.
        rw w.self-is
        (counted-dropped (λ (comment : Comment). outlives live comment.source) c.args.comments.now c.loop-comment.comment-index _ c.loop-comment.self.places.items _ c.loop-comment.self.downtimes _
        (omega (arith, c.loop-comment-test.true)) (sym (c.outlives.ensures live tells) ∙ w.if-not-outlives.true)
        w.remove.ensures.counted (c.loop-comment.invariant.counted live tells));
  }
  | else-not-outlives w ↦ record {
    len = search rules;
    counted = λ live tells.
        rw w.self-is
        (counted-kept (λ (comment : Comment). outlives live comment.source) c.args.comments.now c.loop-comment.comment-index _ c.loop-comment.self.places.items c.loop-comment.self.downtimes
        (omega (arith, c.loop-comment-test.true)) (sym (c.outlives.ensures live tells) ∙ w.if-not-outlives.false)
        (c.loop-comment.invariant.counted live tells));
  }
]

pub returns-clause-counted : goal.returns-clause-counted
returns-clause-counted g c = λ live tells.
    counted-all (λ (comment : Comment). outlives live comment.source) c.args.comments.now c.loop-comment.comment-index c.loop-comment.self.places.items c.loop-comment.self.downtimes
    (omega (arith, c.loop-comment-test.false)) (c.loop-comment.invariant.counted live tells)
