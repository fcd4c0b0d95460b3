-- What the proofs of private functions alone need: the names of objects, as a set.
use Rattle.std.specs.Prelude.{◌≡◌, List}
use Rattle.std.specs.HashSet.{HashSet, contains}
use Rattle.status_merge.specs.declared.gateway.MergedObject.{MergedObject}
use Rattle.status_merge.specs.Entries.{is_among}
use Rattle.status_merge.specs.inner.Names.{Name, same_key}

-- the set has the names of exactly these
abbrev pub AreNamesOf : {S : Type 0} → List MergedObject → HashSet Name S → Type 0
AreNamesOf objects found = (name : Name) → contains same_key found name ≡ is_among objects name.0.now name.1.now
