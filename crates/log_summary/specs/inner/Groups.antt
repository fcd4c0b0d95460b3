-- For proofs and private functions alone: what lists of references hold.
use Rattle.std.specs.Prelude.{ℕ, List, [], ◌∷◌, ◌++◌, map, get_or, set, Vec}
use Rattle.std.specs.Borrow.{Bor}
use Rattle.log_reading.specs.declared.logged.Logged.{Logged}

abbrev pub values_in : List (Bor Logged) → List Logged
values_in log = map (λ one. one.now) log

abbrev pub hosts_in : List (Bor (List ℕ)) → List (List ℕ)
hosts_in hosts = map (λ host. host.now) hosts

abbrev pub groups_in : {Allocator : Type 0} → List (Vec (Bor Logged) Allocator) → List (List Logged)
groups_in groups = map (λ group. values_in group.items) groups

-- one more record in the group at this index
abbrev pub with_one_more : List (List Logged) → ℕ → Logged → List (List Logged)
with_one_more groups index one = set groups index (get_or groups index [] ++ one ∷ [])
