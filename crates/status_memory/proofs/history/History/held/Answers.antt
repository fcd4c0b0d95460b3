use Rattle.std.proofs.Common.{◌∙◌, ap, map}
use Rattle.std.proofs.lemmas.Result.{IfOk-weaker}
use Rattle.status_memory.specs.History.{HistoryView, shown_rows}
use Rattle.status_memory.specs.inner.Known.{known_view, all_held}
use Rattle.status_memory.proofs.HistorySteps.{held_on}
use Rattle.status_memory.proofs.history.History.held.Goals as goal

pub returns-clause-held : goal.returns-clause-held
returns-clause-held c = λ page before is.
    IfOk-weaker c.all_held.result _ _
    (λ held known.
    ap (shown_rows page.objects)
    (known
    ∙ ap (λ items. all_held (map known_view items)) c.as_slice.ensures.value
    ∙ ap (λ (history : HistoryView). all_held history.known) c.self.view_is
    ∙ ap all_held is.known)
    ∙ held_on before page.moment page.objects)
    c.all_held.ensures
