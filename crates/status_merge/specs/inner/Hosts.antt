-- What the proofs of private functions alone need: the names of the hosts that are out, as a set.
use Rattle.std.specs.Prelude.{◌≡◌, ℕ, ◌==◌, Bool, not, ◌&&◌, List, length}
use Rattle.std.specs.Borrow.{Bor}
use Rattle.std.specs.HashSet.{HashSet, contains}
use Rattle.std.specs.List.{list_any}
use Rattle.std.specs.Str.{bytes_eq}
use Rattle.status_merge.specs.declared.gateway.MergedObject.{MergedObject}
use Rattle.status_merge.specs.Objects.{is_host_out}

abbrev pub same_host : Bor (List ℕ) → Bor (List ℕ) → Bool
same_host one other = bytes_eq one.now other.now

-- whether one of the objects is a host of this name that is out
abbrev pub is_out : List MergedObject → List ℕ → Bool
is_out objects name = list_any (λ host. is_host_out host && bytes_eq host.row.host.now name) objects

-- the set has the names of exactly these
abbrev pub AreHostsOut : {S : Type 0} → List MergedObject → HashSet (Bor (List ℕ)) S → Type 0
AreHostsOut objects found = (name : Bor (List ℕ)) → contains same_host found name ≡ is_out objects name.now

-- whether an object is a service of one of the hosts of the set
abbrev pub is_of : {S : Type 0} → HashSet (Bor (List ℕ)) S → MergedObject → Bool
is_of found object = not (length object.row.service.now == 0) && contains same_host found object.row.host
