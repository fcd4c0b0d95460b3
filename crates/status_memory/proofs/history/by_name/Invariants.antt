use Rattle.std.proofs.Common.{◌≡◌, ◌≤◌, length, map, drop}
use Rattle.std.specs.HashMap.{get}
use Rattle.std.specs.Option.{option_map}
use Rattle.status_memory.specs.inner.Known.{Key, same_key, known_view, lent_view, standing_in}
use Rattle.status_memory.proofs.history.by_name.Given as goal

abbrev pub invariant-loop-index : goal.invariant-loop-index
invariant-loop-index l = record {
  found : (key : Key) → option_map lent_view (get same_key l.found key) ≡ standing_in (map known_view (drop l.index l.known)) key.0.now key.1.now;
  within : l.index ≤ length l.known;
}

abbrev pub decreases-loop-index : goal.decreases-loop-index
decreases-loop-index l = l.index
