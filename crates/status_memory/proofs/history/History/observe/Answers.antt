use Rattle.std.proofs.Common.{◌≡◌, ◌-◌, ◌&&◌, ◌∙◌, length, map, ap, refl, sym}
use Rattle.std.specs.Prelude.{nat_lt}
use Rattle.status_memory.specs.History.{HistoryView, change_view}
use Rattle.status_memory.specs.inner.Known.{known_view, all_known, all_changes, changes_if, shared_with}
use Rattle.status_memory.proofs.HistorySteps.{history_more}
use Rattle.status_memory.proofs.history.History.observe.Goals as goal

pub returns-clause-taken : goal.returns-clause-taken
returns-clause-taken c =
    let moment = c.args.page.now.moment in
    let is = c.self.view_is in
    let rows = c.as_slice-rows.ensures.value in
    let had = ap (λ (history : HistoryView). history.has_page) is in
    let known : map known_view c.as_slice.result.now ≡ c.args.self.now.known =
    ap (map known_view) c.as_slice.ensures.value ∙ ap (λ (history : HistoryView). history.known) is in
    let step = c.in_ok-step.ensures in
    let shared = step.shared ∙ (λ i. shared_with (known i) (rows i)) in
    let many = ap length rows in
    λ pages. history_more pages c.args.page.now c.args.self.now _ (map change_view c.self.inside.changes.items)
    (map change_view c.in_ok-step.step.changes.items)
    (sym (ap (λ (history : HistoryView). history.changes) is))
    (step.known ∙ (λ i. all_known (had i) (known i) moment (rows i)))
    (step.changes ∙ (λ i. changes_if (had i) (all_changes (known i) moment (rows i))))
    refl
    (c.is_other-self-inside.ensures ∙ (λ i. had i && nat_lt (shared i) (many i - shared i)))
    c.keep.ensures.kept
