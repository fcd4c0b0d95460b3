-- Rows that are the same as others: `groups`.
use Rattle.std.specs.Prelude.{Bool, List, map, filter, []}
use Rattle.itertools.specs.Consumer.{firsts_from}

module _ {R : Type 0} (same : R → R → Bool) where
  -- the rows that are the same as no row before them
  abbrev pub firsts : List R → List R
  firsts rows = firsts_from same [] rows

  -- each of them, with all rows that are the same, itself among them, in their order
  abbrev pub groups : List R → List (R × List R)
  groups rows = map (λ first. (first, filter (λ row. same row first) rows)) (firsts rows)
