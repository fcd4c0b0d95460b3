-- What is said of orders, gateway by gateway.
use Rattle.std.proofs.Common.{◌≡◌, ℕ, ◌+◌, ◌<◌, ◌≤◌, List, [], ◌∷◌, ◌++◌, length, map, get_or, drop, refl, sym, subst, append_assoc, append-nil}
use Rattle.std.proofs.lemmas.List.{drop_more, drop_all}
use Rattle.desk_outbox.specs.declared.showing.Asked.{Asked}
use Rattle.desk_outbox.specs.declared.showing.Shown.{Shown}
use Rattle.page_watching.specs.declared.watching.Seen.{Seen}
use Rattle.statusdesk.specs.declared.posts.Post.{Post}
use Rattle.statusdesk.specs.Objects.{place_of}
use Rattle.statusdesk.specs.Notes.{SaidView, said_at, fetched_at, IsOwnAt, AreOwn}

pub own_step : (asked : Asked) (seen : List Seen) (posts : List Post) (index : ℕ) (post : Post) (said more : List SaidView)
    (shown : List Shown)
    → index < length posts → post ≡ get_or posts index post → IsOwnAt asked (fetched_at post.place.name.now seen) shown
    → ((rest : List SaidView) → AreOwn asked seen (map place_of (drop index posts)) rest
    → AreOwn asked seen (map place_of posts) (said ++ rest))
    → AreOwn asked seen (map place_of (drop (index + 1) posts)) more
    → AreOwn asked seen (map place_of posts) ((said ++ map (said_at post.place.name.now) shown) ++ more)
own_step asked seen posts index post said more shown inside read own so_far rest =
    let here = map (said_at post.place.name.now) shown in
    subst (λ (whole : List SaidView). AreOwn asked seen (map place_of posts) whole) (sym (append_assoc said here more))
    (so_far (here ++ more)
    (subst (λ (left : List Post). AreOwn asked seen (map place_of left) (here ++ more))
    (sym (drop_more posts index post inside))
    (subst (λ (at : Post). AreOwn asked seen (place_of at ∷ map place_of (drop (index + 1) posts)) (here ++ more)) read
    (shown, more, own, rest, refl))))

pub own_all : (asked : Asked) (seen : List Seen) (posts : List Post) (index : ℕ) (said : List SaidView)
    → length posts ≤ index
    → ((rest : List SaidView) → AreOwn asked seen (map place_of (drop index posts)) rest
    → AreOwn asked seen (map place_of posts) (said ++ rest))
    → AreOwn asked seen (map place_of posts) said
own_all asked seen posts index said over so_far =
    subst (λ (whole : List SaidView). AreOwn asked seen (map place_of posts) whole) (append-nil said)
    (so_far []
    (subst (λ (left : List Post). AreOwn asked seen (map place_of left) []) (sym (drop_all index posts over)) refl))
