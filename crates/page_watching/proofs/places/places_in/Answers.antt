use Rattle.std.proofs.Common.{◌≡◌, ◌++◌, ℕ, List, map, refl, sym, subst}
use Rattle.std.specs.List.{IsDistinct}
use Rattle.std.specs.Str.{bytes_eq}
use Rattle.page_watching.specs.declared.places.Place.{Place}
use Rattle.page_watching.specs.Places.{texts, name_of}
use Rattle.page_watching.proofs.PlaceSteps.{names_of, GoesOn, goes_on, all_named, value_at, after_at, left_at, none_left, distinct_none, names_step, distinct_step, named_again, any_text}
use Rattle.page_watching.proofs.places.places_in.Goals as goal

pub loop-value-init : goal.loop-value-init
loop-value-init c =
    let all = texts c.args.values.now in
    let none = sym c.new-places.ensures.items in
    record {
      places = subst (λ (places : List Place). GoesOn all places all) none (λ after named. named);
      names = subst (λ (places : List Place). names_of places ++ map name_of all ≡ map name_of all) none refl;
      distinct = subst (λ (places : List Place). IsDistinct bytes_eq (names_of places)) none distinct_none;
    }

pub returns-in_default-clause-bad : goal.returns-in_default-clause-bad
returns-in_default-clause-bad c = λ _.
    any_text c.args.values.now c.loop-value.value-index _ c.loop-value-test.true c.in_default.ensures

pub returns-then-is_named-clause-same : goal.returns-then-is_named-clause-same
returns-then-is_named-clause-same c = λ _ distinct.
    let all = texts c.args.values.now in
    let value = value_at c.args.values.now c.loop-value.value-index in
    let after = after_at c.args.values.now c.loop-value.value-index in
    let left = left_at c.args.values.now c.loop-value.value-index c.loop-value-test.true in
    let known = c.loop-value.places.items in
    let Joins : List (List ℕ) → Type 0 = λ rest. names_of known ++ map name_of rest ≡ map name_of all in
    let names = subst Joins left c.loop-value.invariant.names in
    named_again known c.in-Some.place value after (map name_of all) c.in-Some.ensures.0 names
    (rw c.as_slice.ensures.value at c.if-is_named.ensures) distinct

pub loop-value-preserved : goal.loop-value-preserved
loop-value-preserved c =
    let all = texts c.args.values.now in
    let value = value_at c.args.values.now c.loop-value.value-index in
    let after = after_at c.args.values.now c.loop-value.value-index in
    let left = left_at c.args.values.now c.loop-value.value-index c.loop-value-test.true in
    let known = c.loop-value.places.items in
    let Joins : List (List ℕ) → Type 0 = λ rest. names_of known ++ map name_of rest ≡ map name_of all in
    let go = subst (GoesOn all known) left c.loop-value.invariant.places in
    let names = subst Joins left c.loop-value.invariant.names in
    let more = sym c.in_ok-push.ensures.items in
    record {
      places = subst (λ (places : List Place). GoesOn all places after) more
          (goes_on all known value after c.in-Some.place go c.in-Some.ensures);
      names = subst (λ (places : List Place). names_of places ++ map name_of after ≡ map name_of all) more
          (names_step known c.in-Some.place value after (map name_of all) c.in-Some.ensures.0 names);
      distinct = subst (λ (places : List Place). IsDistinct bytes_eq (names_of places)) more
          (distinct_step known c.in-Some.place c.loop-value.invariant.distinct
          (rw c.as_slice.ensures.value at c.if-is_named.ensures));
    }

pub returns-clause-places : goal.returns-clause-places
returns-clause-places c =
    let all = texts c.args.values.now in
    let none = none_left c.args.values.now c.loop-value.value-index c.loop-value-test.false in
    let known = c.loop-value.places.items in
    all_named all known (subst (GoesOn all known) none c.loop-value.invariant.places)
