use Rattle.std.proofs.Common.{◌≡◌, ℕ, List, ◌||◌, drop}
use Rattle.std.specs.Borrow.{Bor}
use Rattle.std.specs.HashSet.{contains}
use Rattle.status_merge.specs.inner.Hosts.{same_host, is_out}
use Rattle.status_merge.proofs.merging.hosts_out.Given as goal

abbrev pub invariant-loop-object : goal.invariant-loop-object
invariant-loop-object l =
    (name : Bor (List ℕ)) → contains same_host l.found name || is_out (drop l.object-index l.objects) name.now ≡ is_out l.objects name.now
