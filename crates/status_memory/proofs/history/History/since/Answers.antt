use Rattle.std.proofs.Common.{◌∙◌, ap, map}
use Rattle.std.proofs.lemmas.Result.{IfOk-weaker}
use Rattle.status_memory.specs.History.{HistoryView}
use Rattle.status_memory.specs.inner.Known.{known_view, since_in}
use Rattle.status_memory.proofs.HistorySteps.{since_on}
use Rattle.status_memory.proofs.history.History.since.Goals as goal

pub returns-clause-since : goal.returns-clause-since
returns-clause-since c = λ page before is.
    IfOk-weaker c.all_since.result _ _
    (λ since known.
    known
    ∙ ap (λ items. map since_in (map known_view items)) c.as_slice.ensures.value
    ∙ ap (λ (history : HistoryView). map since_in history.known) c.self.view_is
    ∙ ap (map since_in) is.known
    ∙ since_on before page.moment page.objects)
    c.all_since.ensures
