use Rattle.std.proofs.Common.{◌≡◌, map, take}
use Rattle.page_watching.specs.Watching.{place_of, seen_place}
use Rattle.page_watching.proofs.watching.Watch.seen.Given as goal

abbrev pub invariant-loop-watched : goal.invariant-loop-watched
invariant-loop-watched g l = map seen_place l.seen.items ≡ take l.watched-index (map place_of l.watched-items)
