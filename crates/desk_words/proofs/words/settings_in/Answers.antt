use Rattle.std.proofs.Common.{List, ℕ, ap, codes, map, refl, sym, subst, inl, inr, ◌≡◌, ◌∙◌}
use Rattle.std.proofs.lemmas.Result.{err_from_is_err_and}
use Rattle.std.specs.List.{IsDistinct, slice_split}
use Rattle.std.specs.Str.{bytes_eq}
use Rattle.clap.specs.Walk.{texts}
use Rattle.clap.specs.Words.{Text, found_of, rows_of}
use Rattle.page_watching.specs.Places.{name_of, NameAll, WritesEvery}
use Rattle.status_serving.specs.Headings.{WritesRefresh}
use Rattle.desk_words.specs.declared.words.WordsFault.{WordsFault}
use Rattle.desk_words.specs.Words.{value_of, values_of, IsLoopbackText, is_comma, HavePorts, IsFaultIn}
use Rattle.desk_words.proofs.WordSteps.{some_given, nothing_given, listen_fault, gateway_fault, operators_fault}
use Rattle.desk_words.proofs.words.settings_in.Goals as goal

pub returns-in_err-listen-clause-refused : goal.returns-in_err-listen-clause-refused
returns-in_err-listen-clause-refused c =
    let p = err_from_is_err_and c.from_residual.result c.from_residual.ensures.1 in
    rw (p.1, p.2) (listen_fault (rows_of (found_of c.args.matches.now)) _ _ c.value_of.ensures c.in_err-listen.ensures.refused)

pub returns-in_err-operators-clause-refused : goal.returns-in_err-operators-clause-refused
returns-in_err-operators-clause-refused c =
    let ports = ap texts c.as_slice.ensures.value ∙ c.in_ok-ports.ensures in
    let p = err_from_is_err_and c.from_residual-in_err-operators.result c.from_residual-in_err-operators.ensures.1 in
    rw (p.1, p.2)
    (operators_fault (rows_of (found_of c.args.matches.now)) (texts c.as_slice.result.now) c.in_err-operators.field-0.0 ports
    c.in_err-operators.ensures.refused)

pub returns-clause-found : goal.returns-clause-found
returns-clause-found c =
    let found = rows_of (found_of c.args.matches.now) in
    let gateways = ap texts c.as_slice-named.ensures.value ∙ c.in_ok-gateways.ensures in
    let ports = ap texts c.as_slice.ensures.value ∙ c.in_ok-ports.ensures in
    record {
      listen = subst (λ (text : List ℕ). IsLoopbackText text c.in_ok-listen.listen) c.value_of.ensures c.in_ok-listen.ensures.listen;
      places = subst (λ (values : List Text). NameAll values c.in_ok-places.places.items) gateways c.in_ok-places.ensures.places;
      some = some_given c.as_slice-named.result.now _ gateways (sym c.is_empty.ensures ∙ c.if-is_empty.false);
      distinct = subst (λ (values : List Text). IsDistinct bytes_eq (map name_of values)) gateways (c.in_ok-places.ensures.distinct refl);
      operators = subst (λ (values : List Text). NameAll values c.in_ok-operators.operators.items) ports c.in_ok-operators.ensures.places;
      ports = rw (c.as_slice-2.ensures.value, c.as_slice-3.ensures.value) at c.in_ok-check_ports.ensures.ports;
      title = c.value_of-4.ensures;
      refresh = subst (λ (text : List ℕ). WritesRefresh text c.in-Some.refresh) c.value_of-2.ensures c.in-Some.ensures;
      every = subst (λ (text : List ℕ). WritesEvery text c.in-Some-every_in.every) c.value_of-3.ensures c.in-Some-every_in.ensures;
      hosts = c.in_ok-values_of.ensures;
      user_header = c.value_of-5.ensures;
      users = c.in_ok-users.ensures ∙ ap (slice_split is_comma) (c.as_bytes.ensures.value ∙ c.value_of-users.ensures);
    }
