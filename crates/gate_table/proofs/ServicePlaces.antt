-- The places of the services of a host, as a table lists them.
use Rattle.std.proofs.Common.{◌≡◌, ℕ, zero, suc, ◌+◌, ◌<◌, Bool, true, false, cond, ◌||◌, List, [], ◌∷◌, ◌++◌, length, map, Option, Some, None, is_some, refl, sym, ap, ◌∙◌, inl, inr, arith}
use Rattle.std.specs.Prelude.{filter, slice_get, count_by}
use Rattle.std.specs.List.{enumerate_from, list_any}
use Rattle.std.specs.Map.{values_of}
use Rattle.std.proofs.lemmas.Bool.{cases_Bool, true≢false}
use Rattle.std.proofs.lemmas.List.{length-map}
use Rattle.gate_model.specs.declared.object.Kind.TheVariants.{Service}
use Rattle.gate_model.specs.declared.object.ObjectLine.{ObjectLine}
use Rattle.gate_model.specs.Table.{place_of, is_line_of, object_at, is_service_line_of, services_from}
use Rattle.gate_table.specs.Faults.{IsFaultless}
use Rattle.gate_table.specs.inner.NamedObjects.{service_places, row_of, AreObjects}
use Rattle.gate_model.proofs.Lists.{none_is_not_some, some_is, none_from_is_some, list_any_from_position, position_from-within}
use Rattle.gate_table.proofs.KeySteps.{line_decides}
use Rattle.gate_table.proofs.Hosts.{has_object-host}
use Rattle.gate_table.proofs.ServiceSteps.{map-cond, services-cons, length-services}

-- one line more
places-cons : (host : List ℕ) (place : ℕ) (line : ObjectLine) (lines : List ObjectLine)
    → service_places host place (line ∷ lines)
    ≡ cond (is_service_line_of host line) (place ∷ service_places host (place + 1) lines) (service_places host (place + 1) lines)
places-cons host place line lines =
    map-cond (λ (one : ℕ × ObjectLine). one.0) (is_service_line_of host line) (place, line)
    (filter (λ (one : ℕ × ObjectLine). is_service_line_of host one.1) (enumerate_from (place + 1) lines))

-- the services are the objects at these places
pub services-places : (host : List ℕ) (place : ℕ) (lines : List ObjectLine) → map (object_at Service) (service_places host place lines) ≡ services_from host place lines
services-places host place [] = refl
services-places host place (line ∷ lines) =
    ap (map (object_at Service)) (places-cons host place line lines)
    ∙ map-cond (object_at Service) (is_service_line_of host line) place (service_places host (place + 1) lines)
    ∙ ap (λ rest. cond (is_service_line_of host line) (object_at Service place ∷ rest) rest) (services-places host (place + 1) lines)
    ∙ sym (services-cons host place line lines)

cond-append : (b : Bool) (place : ℕ) (rest more : List ℕ) → cond b (place ∷ rest) rest ++ more ≡ cond b (place ∷ (rest ++ more)) (rest ++ more)
cond-append true place rest more = refl
cond-append false place rest more = refl

-- the last line is that of a service of the host, or it isn't
pub places-push : (host : List ℕ) (place : ℕ) (lines : List ObjectLine) (line : ObjectLine)
    → service_places host place (lines ++ line ∷ []) ≡ service_places host place lines ++ cond (is_service_line_of host line) ((place + length lines) ∷ []) []
places-push host place [] line =
    places-cons host place line []
    ∙ ap (λ n. cond (is_service_line_of host line) (n ∷ []) []) (let same : place ≡ place + 0 = omega arith in same)
places-push host place (first ∷ lines) line =
    places-cons host place first (lines ++ line ∷ [])
    ∙ ap (λ rest. cond (is_service_line_of host first) (place ∷ rest) rest) (places-push host (place + 1) lines line)
    ∙ sym (cond-append (is_service_line_of host first) place (service_places host (place + 1) lines) (cond (is_service_line_of host line) ((place + 1 + length lines) ∷ []) []))
    ∙ ap (λ before. before ++ cond (is_service_line_of host line) ((place + 1 + length lines) ∷ []) []) (sym (places-cons host place first lines))
    ∙ ap (λ n. service_places host place (first ∷ lines) ++ cond (is_service_line_of host line) (n ∷ []) []) (let same : place + 1 + length lines ≡ place + length (first ∷ lines) = omega arith in same)

-- as many places as services
pub length-places : (host : List ℕ) (lines : List ObjectLine) → length (service_places host 0 lines) ≡ count_by (is_service_line_of host) lines
length-places host lines =
    sym (length-map (service_places host 0 lines) (object_at Service)) ∙ ap length (services-places host 0 lines) ∙ length-services host 0 lines

pub place-within : (table : List ObjectLine) (host : List ℕ) (place : ℕ) → place_of table host None ≡ Some place → place < length table
place-within table host place found = let within = position_from-within (is_line_of host None) 0 table place found in omega (arith, within)

-- the place of a host lies among the objects
pub object-within : (lines : List ObjectLine) (objects : List (List ℕ × List ℕ)) → AreObjects lines objects → (host : List ℕ) (place : ℕ) → place_of lines host None ≡ Some place → place < length objects
object-within lines objects are host place found =
    omega (arith, length-map objects (λ (one : List ℕ × List ℕ). one.1), are.one_each, place-within lines host place found)

-- the services that are listed at a host are all that it has
pub services-counted : (lines : List ObjectLine) (objects : List (List ℕ × List ℕ)) → AreObjects lines objects → (host : List ℕ) (found : Option ℕ) → place_of lines host None ≡ found
    → length (row_of (values_of objects) found) ≡ count_by (is_service_line_of host) lines
services-counted lines objects are host found is =
    ap length (ap (row_of (values_of objects)) (sym is) ∙ are.services_are host) ∙ length-places host lines

-- a line of the table has a host in it
pub known-host : (table : List ObjectLine) (place : ℕ) (line : ObjectLine) → IsFaultless table → slice_get table place ≡ Some line → place_of table line.host None ≡ None → ⊥
known-host table place line good there none =
    elim (cases_Bool (is_some (place_of table line.host line.service))) [
      | inl found ↦ absurd (true≢false (sym (host-of (place_of table line.host line.service) refl found) ∙ ap is_some none))
      | inr lost ↦
          absurd (true≢false (sym (any-there (is_line_of line.host line.service) table place line there ((line_decides line.host line.service line).1 (refl, refl)))
          ∙ list_any_from_position (is_line_of line.host line.service) 0 table (none_from_is_some (place_of table line.host line.service) lost)))
    ]
  where
    host-of : (found : Option ℕ) → place_of table line.host line.service ≡ found → is_some found ≡ true → is_some (place_of table line.host None) ≡ true
    host-of None e some = absurd (true≢false (sym some))
    host-of (Some p) e some = has_object-host table line.host line.service p good e

    any-there : (test : ObjectLine → Bool) (lines : List ObjectLine) (i : ℕ) (one : ObjectLine) → slice_get lines i ≡ Some one → test one ≡ true → list_any test lines ≡ true
    any-there test [] i one e passes = absurd (none_is_not_some one e)
    any-there test (first ∷ lines) zero one e passes = ap (λ b. b || list_any test lines) (ap test (some_is first one e) ∙ passes)
    any-there test (first ∷ lines) (suc i) one e passes = ap (λ b. test first || b) (any-there test lines i one e passes) ∙ or-true (test first)
      where
        or-true : (b : Bool) → (b || true) ≡ true
        or-true true = refl
        or-true false = refl
