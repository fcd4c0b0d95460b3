-- What holds of every legal run. Own rules.
use Rattle.std.specs.Prelude.{◌≡◌, ℕ, ◌∷◌, ◌++◌, None, true, false}
use Rattle.std.specs.List.{list_any}
use Rattle.gate_core.specs.declared.event.Event.TheVariants.{Look, Take}
use Rattle.gate_core.specs.declared.event.Reply.TheVariants.{Open, Empty}
use Rattle.gate_core.specs.Limits.{Limits}
use Rattle.gate_core.specs.Merge.{IsClient, IsCoreState}
use Rattle.gate_core.specs.Legal.{Run, queued, taken, waiting, first_close, has_joined, is_own}

-- what was taken, followed by what waits, is a merge of what each client was answered is queued
abbrev pub IsConserved : Limits → Run → Type 0
IsConserved limits run =
    IsCoreState limits.clients limits.quota limits.capacity (λ client. queued client run) (taken run) (waiting run)

-- the run has a look of the client, answered Open, which stands before every close, and no own event of the client
-- since
pub record FollowsOpenLook (client : ℕ) (run : Run) : Type 0 where
  pub since : Run
  pub before : Run
  pub run_is : run ≡ since ++ (Look client, Open) ∷ before
  pub no_close_before : first_close before ≡ None
  pub no_own_event_since : list_any (λ pair. is_own client pair.0) since ≡ false

-- the run has a take answered Empty, before which every client was taken in
pub record IsDrained (clients : ℕ) (run : Run) : Type 0 where
  pub since : Run
  pub before : Run
  pub run_is : run ≡ since ++ (Take, Empty) ∷ before
  pub all_joined : (client : ℕ) → IsClient clients client → has_joined client before ≡ true
