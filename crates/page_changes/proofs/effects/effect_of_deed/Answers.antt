use Rattle.std.proofs.Common.{ap, ◌∙◌}
use Rattle.page_changes.specs.Effects.{shown_if}
use Rattle.page_changes.proofs.effects.effect_of_deed.Goals as goal

pub returns-in-DelAllComments : goal.returns-in-DelAllComments
returns-in-DelAllComments c =
    let none =
    rw (c.last_comment-last.ensures, c.as_slice-in-DelAllComments.ensures.value, c.as_slice-in-DelAllComments-2.ensures.value)
    at c.has_none_of.ensures in
    rw c.in-DelAllComments.is (c.shown_if-in-DelAllComments.ensures ∙ ap shown_if none)
