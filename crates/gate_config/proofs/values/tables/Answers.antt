use Rattle.std.proofs.Common.{◌≡◌, true, false, Some, map, refl, ap, sym, ◌∙◌, rules}
use Rattle.std.specs.List.{list_all}
use Rattle.toml.specs.View.{view}
use Rattle.gate_config.specs.Values.{is_table}
use Rattle.gate_config.proofs.TableSteps.{tables_are, not_all_tables}
use Rattle.gate_config.proofs.values.tables.Goals as goal

pub returns-then-not-are_tables-clause-bad : goal.returns-then-not-are_tables-clause-bad
returns-then-not-are_tables-clause-bad c =
    let some : c.are_tables.result ≡ false = search rules in (
      refl,
      not_all_tables _ _ c.in-Some-as_array.values.now.items c.in-Some.ensures c.in-Some-as_array.ensures
          (ap (list_all (λ value. is_table (view value))) (sym c.deref.ensures.value) ∙ sym c.are_tables.ensures ∙ some),
    )

pub returns-clause-tables : goal.returns-clause-tables
returns-clause-tables c =
    let all : c.are_tables.result ≡ true = search rules in
    tables_are _ _ c.in-Some-as_array.values.now.items c.in-Some.ensures c.in-Some-as_array.ensures
    (ap (list_all (λ value. is_table (view value))) (sym c.deref.ensures.value) ∙ sym c.are_tables.ensures ∙ all)
    ∙ ap (λ values. Some (map view values)) (sym c.as_slice.ensures.value)
