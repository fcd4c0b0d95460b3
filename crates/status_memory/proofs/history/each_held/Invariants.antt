use Rattle.std.proofs.Common.{◌≡◌, ◌++◌, drop, map}
use Rattle.std.specs.Option.{option_map}
use Rattle.status_memory.specs.History.{result_view}
use Rattle.status_memory.specs.inner.Known.{known_view, held_in}
use Rattle.status_memory.proofs.history.each_held.Given as goal

abbrev pub invariant-loop-one : goal.invariant-loop-one
invariant-loop-one l =
    map (option_map result_view) l.held.items ++ map held_in (map known_view (drop l.one-index l.known))
    ≡ map held_in (map known_view l.known)
