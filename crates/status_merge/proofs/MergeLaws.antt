-- What is known of `merged`: `merged_lists`.
use Rattle.std.proofs.Common.{◌≡◌, List, [], ◌∷◌, Bool, true, false, ◌&&◌, if◌then◌else◌, Some, refl, sym, ◌∙◌, ap, map, arith, inl, subst, inr, filter, find, unwrap_or}
use Rattle.std.specs.Cmp.{IsEquivalence}
use Rattle.std.specs.List.{All, AllByRecursion, Contains}
use Rattle.std.specs.Str.{bytes_eq}
use Rattle.std.proofs.lemmas.Bool.{cases_Bool}
use Rattle.std.proofs.lemmas.Cmp.{nat_list_eq_equiv}
use Rattle.std.proofs.lemmas.List.Elements.{All-contains, All-contains_itself, All-filter, All-from_recursion, All-map, Contains-append_cases, Contains-append_left, Contains-append_right, Contains-push, Contains-push_cases, filter_agree, filter_passes}
use Rattle.status_merge.specs.declared.gateway.MergedObject.{MergedObject}
use Rattle.status_merge.specs.Groups.{firsts}
use Rattle.status_merge.specs.Objects.{counted_age, is_younger, is_latest, latest, merged, same_name, IsListOf}
use Rattle.status_merge.proofs.FirstLaws.{weaker, firsts-distinct, firsts-among, firsts-whole, like, picked-distinct, picked-whole}
use Rattle.status_merge.proofs.LatestSteps.{kept, kept-latest}

-- ---- names

both : (one other : Bool) → one && other ≡ true → (one ≡ true) × (other ≡ true)
both true true e = (refl, refl)
both true false e = cc
both false other e = cc

pub names_alike : IsEquivalence same_name
names_alike = record {
  refl = λ one. rw (nat_list_eq_equiv.refl one.row.host.now, nat_list_eq_equiv.refl one.row.service.now) refl;
  symm = λ one other. rw (nat_list_eq_equiv.symm one.row.host.now other.row.host.now, nat_list_eq_equiv.symm one.row.service.now other.row.service.now) refl;
  congr = λ one other row e.
      let parts = both (bytes_eq one.row.host.now other.row.host.now) (bytes_eq one.row.service.now other.row.service.now) e in
      rw (
        nat_list_eq_equiv.congr one.row.host.now other.row.host.now row.row.host.now parts.0,
        nat_list_eq_equiv.congr one.row.service.now other.row.service.now row.row.service.now parts.1,
      )
      refl;
}

-- ---- the latest of some rows

found : (test : MergedObject → Bool) (rows : List MergedObject) (row : MergedObject) → find test rows ≡ Some row → (test row ≡ true) × Contains rows row
found test [] row e = cc
found test (next ∷ rows) row e = elim (cases_Bool (test next)) [
  | inl passes ↦
      let is : next ≡ row = let here : Some next ≡ Some row = rw passes at e in cc in
      rw (← is) (passes, Contains-append_left (next ∷ []) rows next (Contains-push [] next))
  | inr fails ↦
      let rest = found test rows row (rw fails at e) in
      (rest.0, Contains-append_right (next ∷ []) rows row rest.1)
]

pub kept-some : (known : MergedObject) (rows : List MergedObject) → (row : MergedObject) × (kept (Some known) rows ≡ Some row)
kept-some known [] = (known, refl)
kept-some known (row ∷ rows) = kept-some (if is_younger (counted_age row) (counted_age known) then row else known) rows

latest-found : (rows : List MergedObject) (first : MergedObject) → Contains rows first → (is_latest rows (latest (first, rows)) ≡ true) × Contains rows (latest (first, rows))
latest-found [] first is = absurd (let no = is.1 in omega arith)
latest-found (row ∷ rows) first is =
    let last = kept-some row rows in
    let finds : find (is_latest (row ∷ rows)) (row ∷ rows) ≡ Some last.0 = sym (kept-latest (row ∷ rows)) ∙ last.1 in
    subst (λ (object : MergedObject). (is_latest (row ∷ rows) object ≡ true) × Contains (row ∷ rows) object) (sym (ap (λ o. unwrap_or o first) finds))
    (found (is_latest (row ∷ rows)) (row ∷ rows) last.0 finds)

Contains-filter : (test : MergedObject → Bool) (rows : List MergedObject) (row : MergedObject) → Contains rows row → test row ≡ true → Contains (filter test rows) row
Contains-filter test [] row is passes = absurd (let no = is.1 in omega arith)
Contains-filter test (next ∷ rows) row is passes = elim (Contains-append_cases (next ∷ []) rows row is) [
  | inl here ↦ elim (Contains-push_cases [] next row here) [
    | inl none ↦ absurd (let no = none.1 in omega arith)
    | inr same ↦ rw (same, passes) (Contains-append_left (row ∷ []) (filter test rows) row (Contains-push [] row))
  ]
  | inr later ↦ elim (cases_Bool (test next)) [
    | inl hit ↦ rw hit (Contains-append_right (next ∷ []) (filter test rows) row (Contains-filter test rows row later passes))
    | inr miss ↦ rw miss (Contains-filter test rows row later passes)
  ]
]

map-twice : {A B C : Type 0} (f : B → C) (g : A → B) (xs : List A) → map f (map g xs) ≡ map (λ x. f (g x)) xs
map-twice f g [] = refl
map-twice f g (x ∷ xs) = rw (map-twice f g xs) refl

-- ---- the list

module _ (rows : List MergedObject) where
  -- the rows of this row's name
  abbrev pub of_name : MergedObject → List MergedObject
  of_name first = filter (λ row. same_name row first) rows

  abbrev pub shown_for : MergedObject → MergedObject
  shown_for first = latest (first, of_name first)

  -- the row that is shown for a first row has its name, is a row, and none of its name is later
  record IsShownFor (first object : MergedObject) : Type 0 where
    named : same_name object first ≡ true
    is_row : Contains rows object
    latest : is_latest (of_name object) object ≡ true

  pub first_of_name : (first : MergedObject) → Contains rows first → Contains (of_name first) first
  first_of_name first is = Contains-filter _ rows first is (names_alike.refl first)

  shown_is : (first : MergedObject) → Contains rows first → IsShownFor first (shown_for first)
  shown_is first is =
      let latest_is = latest-found (of_name first) first (first_of_name first is) in
      let object = shown_for first in
      let named : same_name object first ≡ true = All-contains (λ row. same_name row first ≡ true) (of_name first) object (filter_passes (λ row. same_name row first) rows) latest_is.1 in
      let same : of_name object ≡ of_name first = filter_agree _ _ (λ row. like names_alike object first row named) rows in
      record {
        named = named;
        is_row = All-contains (Contains rows) (of_name first) object (All-filter (λ row. same_name row first) (Contains rows) rows (All-contains_itself rows)) latest_is.1;
        latest = rw same latest_is.0;
      }

  all_shown : AllByRecursion (λ first. IsShownFor first (shown_for first)) (firsts same_name rows)
  all_shown = weaker _ _ shown_is _ (firsts-among same_name [] rows)

  pub is_picked : merged rows ≡ map shown_for (firsts same_name rows)
  is_picked = map-twice latest (λ first. (first, of_name first)) (firsts same_name rows)

  pub merged_lists : IsListOf rows (merged rows)
  merged_lists =
      let named = weaker _ (λ first. same_name (shown_for first) first ≡ true) (λ first shown. shown.named) _ all_shown in
      let latest : All (λ first. Contains rows (shown_for first) × (is_latest (of_name (shown_for first)) (shown_for first) ≡ true)) (firsts same_name rows) =
      All-from_recursion _ _
      (weaker _ (λ first. Contains rows (shown_for first) × (is_latest (of_name (shown_for first)) (shown_for first) ≡ true))
      (λ first shown. (shown.is_row, shown.latest)) _ all_shown) in
      rw is_picked
      (record {
        once = picked-distinct names_alike shown_for (firsts same_name rows) named (firsts-distinct same_name [] rows);
        whole = All-from_recursion _ rows
            (weaker _ _ (λ row is. sym (picked-whole names_alike shown_for row (firsts same_name rows) named) ∙ is) rows (firsts-whole names_alike [] rows));
        latest = All-map (λ object. Contains rows object × (is_latest (of_name object) object ≡ true)) shown_for (firsts same_name rows) latest;
      })
