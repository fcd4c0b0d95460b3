use Rattle.std.proofs.Common.{◌≡◌, ℕ, ◌++◌, drop, map}
use Rattle.std.specs.List.{enumerate_from}
use Rattle.std.specs.Option.{option_map}
use Rattle.status_reading.specs.declared.rows.ShownObject.{ShownObject}
use Rattle.status_reading.specs.Rows.{object_view}
use Rattle.status_memory.specs.History.{result_view}
use Rattle.status_serving.specs.inner.Rows.{shown_at, each_shown}
use Rattle.status_serving.proofs.bodies.each_shown.Given as goal

abbrev pub invariant-loop-index : goal.invariant-loop-index
invariant-loop-index l =
    map object_view l.shown.items
    ++ map (λ (item : ℕ × ShownObject). shown_at (object_view item.1) (map (option_map result_view) l.held) item.0)
    (enumerate_from l.index (drop l.index l.rows))
    ≡ each_shown l.rows (map (option_map result_view) l.held)
