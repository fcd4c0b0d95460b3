use Rattle.std.proofs.Common.{◌≡◌, ◌++◌, drop, map}
use Rattle.status_memory.specs.inner.Known.{known_view, since_in}
use Rattle.status_memory.proofs.history.all_since.Given as goal

abbrev pub invariant-loop-one : goal.invariant-loop-one
invariant-loop-one l =
    l.since.items ++ map since_in (map known_view (drop l.one-index l.known)) ≡ map since_in (map known_view l.known)
