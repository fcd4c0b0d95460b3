-- The rows of a page by their earlier results: by their index, and one after another.
use Rattle.std.proofs.Common.{◌≡◌, ℕ, ◌+◌, ◌==◌, true, List, [], ◌∷◌, length, map, drop, Option, Some, None, refl, sym, ap, ◌∙◌, subst, inl, inr, arith}
use Rattle.std.specs.Arc.{arc_value}
use Rattle.std.specs.List.{enumerate_from}
use Rattle.std.specs.Option.{option_map}
use Rattle.std.proofs.lemmas.Bool.{eqb-true}
use Rattle.std.proofs.lemmas.List.{drop_more, drop_all}
use Rattle.std.proofs.lemmas.Option.{slice_get_cases}
use Rattle.status_reading.specs.declared.rows.ShownObject.{ShownObject}
use Rattle.status_reading.specs.Rows.{ObjectView, PageView, object_view}
use Rattle.status_reading.specs.Text.{IsTextOf}
use Rattle.status_memory.specs.declared.memory.Kept.{Kept}
use Rattle.status_memory.specs.declared.history.ShownResult.{ShownResult}
use Rattle.status_memory.specs.History.{ResultView, result_view, by_result, shown_rows}
use Rattle.status_memory.proofs.HistorySteps.{as_they_are}
use Rattle.page_watching.specs.declared.watching.Contents.{Contents}
use Rattle.page_watching.specs.Watching.{Shared}
use Rattle.status_serving.specs.Pages.{shown_page, IsShownPage}
use Rattle.status_serving.specs.inner.Rows.{shown_at, each_shown}

-- those from this index on
abbrev from_index : ℕ → List ShownObject → List (Option ResultView) → List ObjectView
from_index index rows results =
    map (λ (item : ℕ × ShownObject). shown_at (object_view item.1) results item.0) (enumerate_from index rows)

abbrev by_found : ObjectView → Option (Option ResultView) → ObjectView
by_found row found = elim found [ None ↦ row | Some result ↦ by_result row result ]

from_there : (index : ℕ) (rows : List ShownObject) (results : List (Option ResultView))
    → from_index index rows results ≡ shown_rows (map object_view rows) (drop index results)
from_there index [] results = refl
from_there index (row ∷ rows) results =
    let next = from_there (index + 1) rows results in
    let rest = from_index (index + 1) rows results in
    elim (slice_get_cases results index).1 [
      | inl found ↦
          let here : drop index results ≡ found.0 ∷ drop (index + 1) results =
          drop_more results index found.0 found.1 ∙ ap (λ one. one ∷ drop (index + 1) results) found.3 in
          ap (λ one. by_found (object_view row) one ∷ rest) found.2
          ∙ ap (λ rest. by_result (object_view row) found.0 ∷ rest) next
          ∙ sym (ap (shown_rows (map object_view (row ∷ rows))) here)
      | inr past ↦
          let after : drop (index + 1) results ≡ [] = drop_all (index + 1) results (omega (arith, past.0)) in
          ap (λ one. by_found (object_view row) one ∷ rest) past.1
          ∙ ap (λ rest. object_view row ∷ rest)
          (next ∙ ap (shown_rows (map object_view rows)) after ∙ as_they_are (map object_view rows))
          ∙ sym (ap (shown_rows (map object_view (row ∷ rows))) (drop_all index results past.0))
    ]

pub each_row : (rows : List ShownObject) (results : List (Option ResultView)) → each_shown rows results ≡ shown_rows (map object_view rows) results
each_row rows results = from_there 0 rows results

pub no_results : (rows : List ObjectView) (held : List (Option ShownResult)) → (length held == 0) ≡ true
    → rows ≡ shown_rows rows (map (option_map result_view) held)
no_results rows [] none = sym (as_they_are rows)
no_results rows (one ∷ held) none = absurd (omega (arith, eqb-true (length (one ∷ held)) 0 none))

pub is_shown : (kept : Kept Shared) (contents : Contents) (fetched shown : PageView) (held : List (Option ShownResult))
    → contents ≡ arc_value kept.page.text → IsTextOf contents.text.bytes.items fetched → held ≡ contents.held.items
    → shown ≡ shown_page fetched (map (option_map result_view) held)
    → IsShownPage kept shown
is_shown kept contents fetched shown held is text same made = (
  fetched,
  subst (λ (contents : Contents). IsTextOf contents.text.bytes.items fetched) is text,
  made
      ∙ ap (λ held. shown_page fetched (map (option_map result_view) held)) same
      ∙ ap (λ (contents : Contents). shown_page fetched (map (option_map result_view) contents.held.items)) is,
)
