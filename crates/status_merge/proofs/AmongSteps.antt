-- The names of objects, as a set: what one more object adds; and a filter of values, by what they stand for.
use Rattle.std.proofs.Common.{◌≡◌, ℕ, ◌<◌, ◌&&◌, ◌||◌, Bool, true, false, cond, List, [], ◌∷◌, suc, length, drop, drop-cons, get_or, refl, sym, ◌∙◌, ap, map, inl, inr, filter}
use Rattle.std.specs.Str.{bytes_eq}
use Rattle.std.proofs.lemmas.Bool.{cases_Bool}
use Rattle.status_merge.specs.declared.gateway.MergedObject.{MergedObject}
use Rattle.status_merge.specs.Entries.{is_among}

put : (here has rest : Bool) → (cond here true has || rest) ≡ (has || (here || rest))
put true true rest = refl
put true false rest = refl
put false true rest = refl
put false false rest = refl

pub name_more : (objects : List MergedObject) (index next : ℕ) (other : MergedObject) (host service : List ℕ) (has after : Bool)
    → index < length objects
    → suc index ≡ next
    → after ≡ cond (bytes_eq (get_or objects index other).row.host.now host && bytes_eq (get_or objects index other).row.service.now service) true has
    → (has || is_among (drop index objects) host service) ≡ is_among objects host service
    → (after || is_among (drop next objects) host service) ≡ is_among objects host service
name_more objects index next other host service has after inside step here so_far =
    let object = get_or objects index other in
    let rest = is_among (drop next objects) host service in
    ap (λ found. found || rest) here
    ∙ put (bytes_eq object.row.host.now host && bytes_eq object.row.service.now service) has rest
    ∙ ap (λ from. has || is_among (object ∷ drop from objects) host service) (sym step)
    ∙ ap (λ list. has || is_among list host service) (sym (drop-cons objects index other inside))
    ∙ so_far

-- what a filter leaves stands for what it leaves of what they stand for
pub map-filter : {X Y : Type 0} (view : X → Y) (test : Y → Bool) (items : List X)
    → map view (filter (λ item. test (view item)) items) ≡ filter test (map view items)
map-filter view test [] = refl
map-filter view test (item ∷ items) = elim (cases_Bool (test (view item))) [
  | inl hit ↦ rw hit (ap (λ rest. view item ∷ rest) (map-filter view test items))
  | inr miss ↦ rw miss (map-filter view test items)
]
