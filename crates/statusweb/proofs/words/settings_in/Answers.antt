use Rattle.std.proofs.Common.{List, ℕ, [], Err, ap, codes, map, refl, sym, subst, ◌∙◌}
use Rattle.std.specs.List.{Any, IsDistinct}
use Rattle.std.specs.Str.{bytes_eq}
use Rattle.std.specs.Net.Grammar.{IsSocketText}
use Rattle.clap.specs.Words.{Row, Text, found_of, rows_of}
use Rattle.clap.proofs.WalkLemmas.{raw_values-rows}
use Rattle.page_watching.specs.declared.places.Place.{Place}
use Rattle.page_watching.specs.Places.{name_of, Names, NameAll, WritesEvery}
use Rattle.status_serving.specs.Headings.{WritesRefresh}
use Rattle.statusweb.specs.declared.words.BadValue.{BadValue}
use Rattle.statusweb.specs.declared.words.BadValue.TheVariants.{Listen, Refresh, Every, Gateway, SameName, NoGateway}
use Rattle.statusweb.specs.Words.{IsBadValue}
use Rattle.statusweb.proofs.WordSteps.{given, not_given, nothing_given, some_given, same_value}
use Rattle.statusweb.proofs.words.settings_in.Goals as goal

abbrev Is : List Row → BadValue → Type 0
Is found value = IsBadValue value found

abbrev IsBad : List Text → Type 0
IsBad values = Any (λ value. (place : Place) → Names value place → ⊥) values

abbrev IsTwice : List Text → Type 0
IsTwice values = IsDistinct bytes_eq (map name_of values) → ⊥

pub returns-in_default-clause-bad : goal.returns-in_default-clause-bad
returns-in_default-clause-bad c = λ value same.
    let found = found_of c.args.matches.now in
    subst (Is (rows_of found)) (same_value NoGateway value same)
    (sym (not_given [] (c.in_default.ensures ∙ raw_values-rows found (codes "gateway"))))

pub returns-then-is_empty-clause-bad : goal.returns-then-is_empty-clause-bad
returns-then-is_empty-clause-bad c = λ value same.
    let found = found_of c.args.matches.now in
    let given_so = given [] (c.in-Some.ensures ∙ raw_values-rows found (codes "gateway")) in
    subst (Is (rows_of found)) (same_value NoGateway value same)
    (nothing_given c.in-Some.values.now (rows_of found) given_so (sym c.is_empty.ensures ∙ c.if-is_empty.true))

pub returns-in_default-address_in-clause-bad : goal.returns-in_default-address_in-clause-bad
returns-in_default-address_in-clause-bad c = λ value same.
    subst (Is (rows_of (found_of c.args.matches.now))) (same_value Listen value same)
    (λ address writes. c.in_default-address_in.ensures address
    (subst (λ (text : List ℕ). IsSocketText text address) (sym c.value_of.ensures) writes))

pub returns-in_default-refresh_in-clause-bad : goal.returns-in_default-refresh_in-clause-bad
returns-in_default-refresh_in-clause-bad c = λ value same.
    subst (Is (rows_of (found_of c.args.matches.now))) (same_value Refresh value same)
    (λ seconds writes. c.in_default-refresh_in.ensures seconds
    (subst (λ (text : List ℕ). WritesRefresh text seconds) (sym c.value_of-2.ensures) writes))

pub returns-in_default-every_in-clause-bad : goal.returns-in_default-every_in-clause-bad
returns-in_default-every_in-clause-bad c = λ value same.
    subst (Is (rows_of (found_of c.args.matches.now))) (same_value Every value same)
    (λ seconds writes. c.in_default-every_in.ensures seconds
    (subst (λ (text : List ℕ). WritesEvery text seconds) (sym c.value_of-3.ensures) writes))

pub returns-in-Ok-clause-found : goal.returns-in-Ok-clause-found
returns-in-Ok-clause-found c =
    let found = found_of c.args.matches.now in
    let same = given [] (c.in-Some.ensures ∙ raw_values-rows found (codes "gateway")) in
    record {
      listen = subst (λ (text : List ℕ). IsSocketText text c.in-Some-address_in.listen) c.value_of.ensures c.in-Some-address_in.ensures;
      places = subst (λ (values : List Text). NameAll values c.in-Ok.places.items) same c.in-Ok.ensures.places;
      some = some_given c.in-Some.values.now (rows_of found) same (sym c.is_empty.ensures ∙ c.if-is_empty.false);
      distinct = subst (λ (values : List Text). IsDistinct bytes_eq (map name_of values)) same (c.in-Ok.ensures.distinct refl);
      title = c.value_of-title.ensures;
      refresh = subst (λ (text : List ℕ). WritesRefresh text c.in-Some-refresh_in.refresh) c.value_of-2.ensures c.in-Some-refresh_in.ensures;
      hosts = c.in_ok-hosts.ensures;
      every = subst (λ (text : List ℕ). WritesEvery text c.in-Some-every_in.every) c.value_of-3.ensures c.in-Some-every_in.ensures;
    }

pub returns-in-Err-BadPlace-clause-bad : goal.returns-in-Err-BadPlace-clause-bad
returns-in-Err-BadPlace-clause-bad c = λ value same.
    let found = found_of c.args.matches.now in
    let given_so = given [] (c.in-Some.ensures ∙ raw_values-rows found (codes "gateway")) in
    subst (Is (rows_of found)) (same_value Gateway value same)
    (subst IsBad given_so (c.in-Err-BadPlace.ensures.bad (ap Err c.in-Err-BadPlace.field-0-is)))

pub returns-in-Err-SameName-clause-bad : goal.returns-in-Err-SameName-clause-bad
returns-in-Err-SameName-clause-bad c = λ value same.
    let found = found_of c.args.matches.now in
    let given_so = given [] (c.in-Some.ensures ∙ raw_values-rows found (codes "gateway")) in
    subst (Is (rows_of found)) (same_value SameName value same)
    (subst IsTwice given_so (c.in-Err-SameName.ensures.same (ap Err c.in-Err-SameName.field-0-is)))
