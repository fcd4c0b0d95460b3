use Rattle.std.proofs.Common.{ℕ, List, map, sym, subst, ◌++◌}
use Rattle.statusdesk.specs.Objects.{place_of}
use Rattle.statusdesk.specs.Notes.{SaidView, said_view, IsOwnAt, AreOwn}
use Rattle.statusdesk.proofs.NoteSteps.{own_step, own_all}
use Rattle.statusdesk.proofs.notes.orders_said.Goals as goal

pub loop-post-preserved : goal.loop-post-preserved
loop-post-preserved g c = λ more own.
    subst (λ (said : List SaidView). AreOwn c.args.asked c.args.seen.now (map place_of c.args.posts.now) (said ++ more)) (sym c.in_ok-push_said.ensures)
    (own_step c.args.asked c.args.seen.now c.args.posts.now c.loop-post.post-index c.post-item.result (map said_view c.loop-post.said.items) more
    c.in_ok-shown.field-0.items c.loop-post-test.true c.post-item.is
    (subst (λ (at : ℕ). IsOwnAt c.args.asked at c.in_ok-shown.field-0.items) c.fetched_at.ensures
    (c.in_ok-shown.ensures.0, c.in_ok-shown.ensures.1)) c.loop-post.invariant own)

pub returns : goal.returns
returns g c =
    own_all c.args.asked c.args.seen.now c.args.posts.now c.loop-post.post-index (map said_view c.loop-post.said.items) c.loop-post-test.false
    c.loop-post.invariant
