-- The end of a queue: both clients have ended and were taken in, and what is left in the queue can be taken. Own rules.
use Rattle.std.specs.Prelude.{◌≡◌, ℕ, true, [], ◌∷◌}
use Rattle.gate_core.specs.declared.event.Event.TheVariants.{End, TakeIn}
use Rattle.gate_core.specs.declared.event.Reply.TheVariants.{Ended, Joined}
use Rattle.gate_core.specs.Merge.{IsClient}
use Rattle.gate_core.specs.Legal.{Run, queued, taken, has_joined}
use Rattle.gate_queue.specs.Taker.{TakerState, ended_list}
use Rattle.gate_replay.specs.Allowed.{IsAllowed}

-- the run goes on with the end of client 1, its taking in, and the same of client 2
abbrev pub with_ends : Run → Run
with_ends run = (TakeIn 2, Joined) ∷ (End 2, Ended) ∷ (TakeIn 1, Joined) ∷ (End 1, Ended) ∷ run

-- the run is allowed, both clients were taken in, and the taker has what was taken and the clients' lists as they are
-- after it
pub record IsGateAfter (taker : TakerState) (run : Run) : Type 0 where
  pub two_clients : taker.gate.limits.clients ≡ 2
  pub taken_is : taker.taken ≡ taken run
  pub lists_are : taker.ended ≡ ended_list 2 (queued 2 run) ∷ ended_list 1 (queued 1 run) ∷ []
  pub both_joined : (client : ℕ) → IsClient 2 client → has_joined client run ≡ true
  pub no_other_joined : (client : ℕ) → has_joined client run ≡ true → IsClient 2 client
  pub allowed : IsAllowed taker.gate.limits run
