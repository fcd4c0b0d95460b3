use Rattle.std.proofs.Common.{◌≡◌}
use Rattle.form_urlencoded.specs.Form.{raw_pairs}
use Rattle.form_urlencoded.specs.Parse.{raw_pairs_left}
use Rattle.status_merge.specs.Values.{value_in}
use Rattle.status_merge.proofs.ValueLaws.{after}
use Rattle.status_merge.proofs.values.value_in.Given as goal

abbrev pub invariant-loop-name : goal.invariant-loop-name
invariant-loop-name l =
    after l.wanted l.found.items (raw_pairs_left l.name-iterator) ≡ value_in l.wanted (raw_pairs l.query)
