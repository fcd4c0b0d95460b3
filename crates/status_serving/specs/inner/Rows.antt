-- What the proofs of private functions alone need: the rows of a page by their earlier results, by their index.
use Rattle.std.specs.Prelude.{ℕ, List, map, slice_get, Option, Some, None}
use Rattle.std.specs.List.{enumerate_from}
use Rattle.status_reading.specs.declared.rows.ShownObject.{ShownObject}
use Rattle.status_reading.specs.Rows.{ObjectView, object_view}
use Rattle.status_memory.specs.History.{ResultView, by_result}

-- a row by the earlier result at this index, where there is one
abbrev pub shown_at : ObjectView → List (Option ResultView) → ℕ → ObjectView
shown_at row results index = elim (slice_get results index) [ None ↦ row | Some result ↦ by_result row result ]

abbrev pub each_shown : List ShownObject → List (Option ResultView) → List ObjectView
each_shown rows results =
    map (λ (item : ℕ × ShownObject). shown_at (object_view item.1) results item.0) (enumerate_from 0 rows)
