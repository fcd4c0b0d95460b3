use Rattle.std.proofs.Common.{refl, ◌∙◌, ap, ◌++◌, ◌∷◌, [], arith}
use Rattle.gate_comments.specs.Book.{comment_by}
use Rattle.gate_comments.proofs.KeepingSteps.{kept-add}
use Rattle.gate_comments.proofs.StandingSteps.{stands-add}
use Rattle.gate_comments.proofs.book.CommentBook.add.Goals as goal

pub invariant_of-self : goal.invariant_of-self
invariant_of-self c =
    kept-add c.self.inside.comments.items _ c.self.inside.counts.places.items _ c.self.inside.counts.downtimes _ c.self.inside.next_id _ _ _
    c.self.invariant c.in-Ok.ensures.1 (omega (arith, c.in-Ok.ensures)) c.push_reserved.ensures.items (omega (arith, c.add.ensures.len)) c.add.ensures.counted

pub returns-clause-stands : goal.returns-clause-stands
returns-clause-stands c =
    rw (← c.self.view_is)
    (stands-add _ _ c.args.object c.args.source c.args.persistent c.args.log_index
    (c.push_reserved.ensures.items
    ∙ ap (λ id. c.self.inside.comments.items ++ comment_by id c.args.object c.args.source c.args.persistent c.args.log_index ∷ []) c.in-Ok.ensures.1)
    refl)
