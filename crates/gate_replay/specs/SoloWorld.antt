-- A World's client as the queue of one thread. Own rules.
use Rattle.std.specs.Prelude.{◌≡◌, ℕ, false}
use Rattle.gate_core.specs.Merge.{IsClient}
use Rattle.gate_core.specs.Legal.{Run, has_ended}
use Rattle.gate_core.specs.State.{StandsAfter}
use Rattle.gate_core.specs.LocalClient.{LocalState}

-- the World has two clients and stands after the run, in which none ended
pub record IsAfter (client : LocalState) (run : Run) : Type 0 where
  pub stands : StandsAfter client.world run
  pub nobody_ended : (c : ℕ) → has_ended c run ≡ false
  pub two_clients : client.world.limits.clients ≡ 2
  pub number_is : IsClient 2 client.number
