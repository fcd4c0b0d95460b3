use Rattle.std.proofs.Common.{◌≡◌, map, drop}
use Rattle.desk_words.specs.Words.{has_port}
use Rattle.statusdesk.specs.Objects.{place_of}
use Rattle.statusdesk.proofs.posts.post_of.Given as goal

abbrev pub invariant-loop-post : goal.invariant-loop-post
invariant-loop-post l =
    has_port (map place_of (drop l.post-index l.posts)) l.name ≡ has_port (map place_of l.posts) l.name
