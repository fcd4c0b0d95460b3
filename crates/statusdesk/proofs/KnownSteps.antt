-- What the gateways show of an object, one after another.
use Rattle.std.proofs.Common.{◌≡◌, ℕ, ◌+◌, ◌<◌, ◌≤◌, List, [], ◌∷◌, ◌++◌, length, get_or, drop, refl, sym, subst, append_assoc, append-nil}
use Rattle.std.proofs.lemmas.List.{drop_more, drop_all}
use Rattle.status_reading.specs.Rows.{PageView}
use Rattle.page_watching.specs.declared.watching.Seen.{Seen}
use Rattle.statusdesk.specs.Objects.{IsKnownAt, AreKnown}

module _ (host service : List ℕ) (gateways : List Seen) where
  -- what these are of the gateways from this index on makes all of them what they are of the gateways
  abbrev pub AreSoFar : ℕ → List (List ℕ × PageView) → Type 0
  AreSoFar index all =
      (rest : List (List ℕ × PageView)) → AreKnown host service (drop index gateways) rest
      → AreKnown host service gateways (all ++ rest)

  pub known_step : (index : ℕ) (seen : Seen) (all found : List (List ℕ × PageView)) → index < length gateways
      → seen ≡ get_or gateways index seen → IsKnownAt host service seen found
      → AreSoFar index all → AreSoFar (index + 1) (all ++ found)
  known_step index seen all found inside read is so_far = λ more rest.
      subst (λ (whole : List (List ℕ × PageView)). AreKnown host service gateways whole) (sym (append_assoc all found more))
      (so_far (found ++ more)
      (subst (λ (left : List Seen). AreKnown host service left (found ++ more)) (sym (drop_more gateways index seen inside))
      (subst (λ (at : Seen). AreKnown host service (at ∷ drop (index + 1) gateways) (found ++ more)) read
      (found, more, is, rest, refl))))

  pub known_all : (index : ℕ) (all : List (List ℕ × PageView)) → length gateways ≤ index → AreSoFar index all
      → AreKnown host service gateways all
  known_all index all over so_far =
      subst (λ (whole : List (List ℕ × PageView)). AreKnown host service gateways whole) (append-nil all)
      (so_far [] (subst (λ (left : List Seen). AreKnown host service left []) (sym (drop_all index gateways over)) refl))
