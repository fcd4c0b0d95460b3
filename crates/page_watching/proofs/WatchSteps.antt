-- What is kept of gateways, one after another.
use Rattle.std.proofs.Common.{◌≡◌, ℕ, ◌+◌, ◌<◌, List, [], ◌∷◌, ◌++◌, length, map, take, get_or, sym, ap, ◌∙◌, arith}
use Rattle.std.proofs.lemmas.List.{take_more, map-append, length-map, get_or-map}
use Rattle.page_watching.specs.declared.places.Place.{Place}
use Rattle.page_watching.specs.declared.watching.Watched.{Watched}
use Rattle.page_watching.specs.declared.watching.Seen.{Seen}
use Rattle.page_watching.specs.Watching.{place_of, seen_place}

places_more : {A : Type 0} (place : A → Place) (list : List Place) (index : ℕ) (made more : List A) (next : A)
    → index < length list → place next ≡ get_or list index (place next)
    → more ≡ made ++ next ∷ [] → map place made ≡ take index list → map place more ≡ take (index + 1) list
places_more place list index made more next inside is pushed known =
    ap (map place) pushed
    ∙ map-append place made (next ∷ [])
    ∙ ap (λ (front : List Place). front ++ place next ∷ []) known
    ∙ ap (λ (last : Place). take index list ++ last ∷ []) is
    ∙ sym (take_more list index (place next) inside)

pub seen_more : (items : List Watched) (index : ℕ) (seen more : List Seen) (item : Watched) (one : Seen)
    → index < length items → item ≡ get_or items index item → one.place ≡ item.place → more ≡ seen ++ one ∷ []
    → map seen_place seen ≡ take index (map place_of items) → map seen_place more ≡ take (index + 1) (map place_of items)
seen_more items index seen more item one inside is same pushed known =
    let within : index < length (map place_of items) = omega (arith, length-map items place_of) in
    let at : one.place ≡ get_or (map place_of items) index one.place =
    same ∙ ap place_of is ∙ sym (get_or-map place_of items index item one.place inside) in
    places_more seen_place (map place_of items) index seen more one within at pushed known
