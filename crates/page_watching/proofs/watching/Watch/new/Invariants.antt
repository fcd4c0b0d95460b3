use Rattle.std.proofs.Common.{◌≡◌, map, take}
use Rattle.page_watching.specs.Watching.{place_of}
use Rattle.page_watching.proofs.watching.Watch.new.Given as goal

abbrev pub invariant-loop-place : goal.invariant-loop-place
invariant-loop-place l = map place_of l.watched.items ≡ take l.place-index l.places
