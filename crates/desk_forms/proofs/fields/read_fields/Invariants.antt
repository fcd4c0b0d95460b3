use Rattle.std.proofs.Common.{◌≡◌, ◌++◌, map, length}
use Rattle.std.specs.List.{AllByRecursion, IsDistinct}
use Rattle.std.specs.Str.{bytes_eq}
use Rattle.form_urlencoded.specs.Parse.{raw_pairs_left}
use Rattle.desk_forms.specs.Fields.{IsText, field_of, fields_of, names_of}
use Rattle.desk_forms.proofs.fields.read_fields.Given as goal

abbrev pub invariant-loop-pair : goal.invariant-loop-pair
invariant-loop-pair l = record {
  fields : l.fields.items ++ map field_of (raw_pairs_left l.pairs) ≡ fields_of l.body;
  text : AllByRecursion IsText l.fields.items;
  distinct : IsDistinct bytes_eq (names_of l.fields.items);
}

abbrev pub decreases-loop-pair : goal.decreases-loop-pair
decreases-loop-pair l = length (raw_pairs_left l.pairs)
