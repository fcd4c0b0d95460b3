use Rattle.std.proofs.Common.{◌++◌, map, ap}
use Rattle.gate_pages.specs.Rows.{comment_row}
use Rattle.gate_pages.proofs.FillingSteps.{next-added, all-added}
use Rattle.gate_pages.proofs.rows.comment_rows.Goals as goal

pub loop-comment-init : goal.loop-comment-init
loop-comment-init c =
    ap (λ front. front ++ map (comment_row c.args.table.now c.args.records.now) c.args.comments.now) c.in_ok-rows.ensures.items

pub loop-comment-preserved : goal.loop-comment-preserved
loop-comment-preserved c =
    next-added (comment_row c.args.table.now c.args.records.now) c.push.new.self.items c.loop-comment.rows.items c.args.comments.now c.loop-comment.comment-index _
    c.in_ok-comment_row.field-0 _ c.loop-comment-test.true c.in_ok-comment_row.ensures c.in_ok-push.ensures.items c.loop-comment.invariant

pub returns : goal.returns
returns c =
    all-added (comment_row c.args.table.now c.args.records.now) c.loop-comment.rows.items c.args.comments.now c.loop-comment.comment-index _ c.loop-comment-test.false
    c.loop-comment.invariant
