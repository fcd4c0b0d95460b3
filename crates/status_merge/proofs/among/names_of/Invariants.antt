use Rattle.std.proofs.Common.{◌≡◌, ◌||◌, drop}
use Rattle.std.specs.HashSet.{contains}
use Rattle.status_merge.specs.Entries.{is_among}
use Rattle.status_merge.specs.inner.Names.{Name, same_key}
use Rattle.status_merge.proofs.among.names_of.Given as goal

abbrev pub invariant-loop-object : goal.invariant-loop-object
invariant-loop-object l =
    (name : Name)
    → contains same_key l.found name || is_among (drop l.object-index l.objects) name.0.now name.1.now
    ≡ is_among l.objects name.0.now name.1.now
