-- Only proofs and private functions use this: what taking in and draining come to.
use Rattle.std.specs.Prelude.{◌≡◌, ℕ, List, Option, Some, All, IfSome, IsSome, is_some, Bool, ◌||◌}
use Rattle.std.specs.List.{list_any}
use Rattle.gate_model.specs.declared.record.Moment.{Moment}
use Rattle.gate_core.specs.Merge.{IsClient}
use Rattle.gate_applier.specs.declared.applier.PrepareCause.{PrepareCause}
use Rattle.gate_applier.specs.declared.applier.PrepareCause.TheVariants as prepare
use Rattle.gate_close.specs.declared.drained_close.CloseAllCause.{CloseAllCause}
use Rattle.gate_close.specs.declared.drained_close.CloseAllCause.TheVariants.{LogFull, OutOfMemory}
use Rattle.gate_queue.specs.Client.{ClientState}
use Rattle.gate_queue.specs.Taker.{TakerState, queued_of}
use Rattle.gate_close.specs.DrainedClose.{lists_with}

-- every client was taken in
abbrev pub AllTakenIn : TakerState → Type 0
AllTakenIn taker = (c : ℕ) → IsClient taker.gate.limits.clients c → IsSome (queued_of c taker.ended)

-- the taker took in these clients, and knows of the close what it and they knew
pub record TakesInAll (clients : List ClientState) (old new : TakerState) : Type 0 where
  pub gate : new.gate ≡ old.gate
  pub taken : new.taken ≡ old.taken
  pub taken_in : new.ended ≡ lists_with clients old.ended
  pub knew : IfSome old.known_close (λ first. new.known_close ≡ Some first)
  pub known : All (λ client. IfSome client.known_close (λ first. new.known_close ≡ Some first)) clients

-- the close is known, to the taker or to one of these clients
abbrev pub is_known : Option Moment → List ClientState → Bool
is_known known clients = is_some known || list_any (λ client. is_some client.known_close) clients

-- why a close stops for which the applier can't prepare
abbrev pub close_cause : PrepareCause → CloseAllCause
close_cause prepare.LogFull = LogFull
close_cause prepare.OutOfMemory = OutOfMemory
