use Rattle.std.proofs.Common.{◌≡◌, ◌+◌, ◌≤◌, drop}
use Rattle.std.specs.List.{count_by}
use Rattle.config_testing.specs.Tested.{is_host, is_service}
use Rattle.config_testing.proofs.testing.counted.Given as goal

abbrev pub invariant-loop-place : goal.invariant-loop-place
invariant-loop-place l = record {
  hosts : l.hosts + count_by is_host (drop l.place l.table) ≡ count_by is_host l.table;
  services : l.services + count_by is_service (drop l.place l.table) ≡ count_by is_service l.table;
  low : l.hosts + l.services ≤ l.place;
}
