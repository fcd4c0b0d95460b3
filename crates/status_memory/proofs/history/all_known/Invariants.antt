use Rattle.std.proofs.Common.{◌≡◌, ◌++◌, drop, map}
use Rattle.status_memory.specs.inner.Known.{known_view, known_at}
use Rattle.status_memory.proofs.history.all_known.Given as goal

abbrev pub invariant-loop-row : goal.invariant-loop-row
invariant-loop-row l =
    map known_view l.known.items ++ map (known_at l.had_page l.found l.moment) (drop l.row-index l.rows)
    ≡ map (known_at l.had_page l.found l.moment) l.rows
