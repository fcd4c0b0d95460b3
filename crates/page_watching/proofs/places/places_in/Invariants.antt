use Rattle.std.proofs.Common.{◌≡◌, ◌++◌, map, drop}
use Rattle.std.specs.List.{IsDistinct}
use Rattle.std.specs.Str.{bytes_eq}
use Rattle.page_watching.specs.Places.{texts, name_of}
use Rattle.page_watching.proofs.PlaceSteps.{names_of, GoesOn}
use Rattle.page_watching.proofs.places.places_in.Given as goal

abbrev pub invariant-loop-value : goal.invariant-loop-value
invariant-loop-value l =
    let left = texts (drop l.value-index l.values) in
    record {
      places : GoesOn (texts l.values) l.places.items left;
      names : names_of l.places.items ++ map name_of left ≡ map name_of (texts l.values);
      distinct : IsDistinct bytes_eq (names_of l.places.items);
    }
