use Rattle.std.proofs.Common.{◌≡◌, ◌++◌, map, drop}
use Rattle.statusdesk.specs.Objects.{place_of}
use Rattle.statusdesk.proofs.posts.posts_at.Given as goal

abbrev pub invariant-loop-place : goal.invariant-loop-place
invariant-loop-place l = map place_of l.posts.items ++ drop l.place-index l.places ≡ l.places
