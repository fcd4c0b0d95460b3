use Rattle.std.proofs.Common.{refl, sym, ◌≡◌, ◌∙◌, ◌<◌, arith, length, true, false, Some}
use Rattle.gate_comments.specs.Search.{index_of_id}
use Rattle.gate_comments.proofs.KeepingSteps.{ascending, kept-removed}
use Rattle.gate_comments.proofs.SearchSteps.{found_within, answered, unanswered, find_some, removed-found}
use Rattle.gate_comments.proofs.StandingSteps.{stands-delete}
use Rattle.gate_comments.proofs.book.CommentBook.delete.Goals as goal

pub find_by_id-requires : goal.find_by_id-requires
find_by_id-requires c = rw c.deref.ensures.value (ascending 1 c.self.inside.next_id c.self.inside.comments.items c.self.invariant.ids)

pub returns-in_default-clause-answer : goal.returns-in_default-clause-answer
returns-in_default-clause-answer c =
    rw (← c.self.view_is)
    (unanswered c.args.kind c.args.id c.self.inside.comments.items (sym c.in_default.is ∙ (rw c.deref.ensures.value at c.find_by_id.ensures.index)))

pub index-comment-requires : goal.index-comment-requires
index-comment-requires c = omega (arith, found_within c.args.id c.deref.result.now c.in-Some.index c.in-Some.ensures.index, c.deref.ensures.len)

pub remove-requires-2 : goal.remove-requires-2
remove-requires-2 c = omega (arith, found_within c.args.id c.deref.result.now c.in-Some.index c.in-Some.ensures.index, c.deref.ensures.len)

pub returns-then-not-is_same_kind-clause-answer : goal.returns-then-not-is_same_kind-clause-answer
returns-then-not-is_same_kind-clause-answer c =
    let found : Some c.in-Some.index ≡ index_of_id c.args.id c.self.inside.comments.items = rw c.deref.ensures.value at c.in-Some.ensures.index in
    rw (← c.self.view_is)
    (answered c.args.kind c.args.id c.self.inside.comments.items c.in-Some.index c.index-comment.result.now false
    (ascending 1 c.self.inside.next_id c.self.inside.comments.items c.self.invariant.ids)
    found (found_within c.args.id c.self.inside.comments.items c.in-Some.index found) c.index-comment.ensures
    (sym c.is_same_kind.ensures ∙ c.if-not-is_same_kind.true))

pub returns-clause-answer : goal.returns-clause-answer
returns-clause-answer c =
    let found : Some c.in-Some.index ≡ index_of_id c.args.id c.self.inside.comments.items = rw c.deref.ensures.value at c.in-Some.ensures.index in
    rw (← c.self.view_is)
    (answered c.args.kind c.args.id c.self.inside.comments.items c.in-Some.index c.index-comment.result.now true
    (ascending 1 c.self.inside.next_id c.self.inside.comments.items c.self.invariant.ids)
    found (found_within c.args.id c.self.inside.comments.items c.in-Some.index found) c.index-comment.ensures
    (sym c.is_same_kind.ensures ∙ c.if-not-is_same_kind.false))

pub invariant_of-self : goal.invariant_of-self
invariant_of-self c =
    let found : Some c.in-Some.index ≡ index_of_id c.args.id c.self.inside.comments.items = rw c.deref.ensures.value at c.in-Some.ensures.index in
    let within : c.in-Some.index < length c.self.inside.comments.items = found_within c.args.id c.self.inside.comments.items c.in-Some.index found in
    kept-removed c.self.inside.comments.items _ c.self.inside.counts.places.items _ c.self.inside.counts.downtimes _ c.self.inside.next_id _ _ c.in-Some.index c.index-comment.result.now
    c.self.invariant within c.index-comment.ensures
    (find_some c.args.id c.self.inside.comments.items c.in-Some.index c.index-comment.result.now
    (ascending 1 c.self.inside.next_id c.self.inside.comments.items c.self.invariant.ids) found within c.index-comment.ensures).2
    c.remove-2.ensures.items c.remove.ensures.len c.remove.ensures.counted

pub returns-clause-comments : goal.returns-clause-comments
returns-clause-comments c =
    let found : Some c.in-Some.index ≡ index_of_id c.args.id c.self.inside.comments.items = rw c.deref.ensures.value at c.in-Some.ensures.index in
    rw (← c.self.view_is)
    (c.remove-2.ensures.items
    ∙ removed-found 1 c.self.inside.next_id c.args.id c.self.inside.comments.items c.in-Some.index c.index-comment.result.now c.self.invariant.ids found c.index-comment.ensures)

pub returns-clause-stands : goal.returns-clause-stands
returns-clause-stands c =
    let found : Some c.in-Some.index ≡ index_of_id c.args.id c.self.inside.comments.items = rw c.deref.ensures.value at c.in-Some.ensures.index in
    rw (← c.self.view_is)
    (stands-delete _ _ c.args.id
    (c.remove-2.ensures.items
    ∙ removed-found 1 c.self.inside.next_id c.args.id c.self.inside.comments.items c.in-Some.index c.index-comment.result.now c.self.invariant.ids found c.index-comment.ensures)
    refl)
