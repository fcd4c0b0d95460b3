-- Only proofs and private functions use this: how a player shows the gateway that it plays, and how it stops.
use Rattle.std.specs.Prelude.{◌≡◌, ◌≢◌, ◌⊎◌, ℕ, ◌<◌, ◌^◌, List, [], ◌∷◌, ◌++◌, length, Option, Some, None, Bool, true, false, reverse}
use Rattle.std.specs.Bool.{MatchBool}
use mathlib.Core.List.{IsPrefix}
use Rattle.gate_model.specs.declared.submission.Numbered.{Numbered}
use Rattle.gate_model.specs.Record.{later}
use Rattle.gate_core.specs.Limits.{Limits, limits_of, default_quota}
use Rattle.gate_core.specs.Legal.{Run}
use Rattle.gate_core.specs.declared.event.Event.{Event}
use Rattle.gate_core.specs.declared.event.Event.TheVariants.{Take}
use Rattle.gate_core.specs.declared.event.Reply.{Reply}
use Rattle.gate_core.specs.declared.event.Reply.TheVariants.{Taken, Empty}
use Rattle.gate_replay.specs.Ending.{with_ends}
use Rattle.gate_applier.specs.Applier.{ApplierView, opened}
use Rattle.gate_streams.specs.Sink.{SinkState, FailsOnce, Writes, Delivers}
use Rattle.gate_faults.specs.declared.fault.RunFault.TheVariants as run
use Rattle.gate_replay.specs.declared.fault.ReplayFault.{ReplayFault}
use Rattle.gate_replay.specs.declared.fault.ReplayFault.TheVariants.{TooLong, Run as OfRun}
use Rattle.gate_replay.specs.declared.player.Player.{Player}
use Rattle.gate_replay.specs.declared.player.Stopped.{Stopped}
use Rattle.gate_replay.specs.declared.player.Stopped.TheVariants as stopped
use Rattle.gate_replay.specs.declared.script.Step.{Step}
use Rattle.gate_replay.specs.declared.setup.Setup.{Setup}
use Rattle.gate_replay.specs.declared.script.Script.{Script}
use Rattle.gate_replay.specs.ReplayState.{ReplayState, Heard, number_queued, drains, plays, state_after, steps_of, Finishes, IsWholeStep, IsWhole, IsPlayed, BeginsDrain, IsBegunStep, IsWholeSoFar, IsPlayedSoFar}
use Rattle.gate_replay.specs.Replay.{IsTooLong, printed_by, HasRoomLeft}

-- ---- a queue

-- what a queue's type knows of it: the runs that may be what happened at it, and its limits
pub record SoloView (D : Type 0) : Type 1 where
  pub after : D → Run → Type 0
  pub limits : D → Limits

-- the view with these members of the queue's type
abbrev pub solo_view : {D : Type 0} → (D → Run → Type 0) → (D → Limits) → SoloView D
solo_view after limits = record { after = after; limits = limits }

-- whatever run the old queue showed, the new one shows that run with this event and its reply
abbrev pub Extends : {D : Type 0} → SoloView D → D → Event → Reply → D → Type 0
Extends view old event reply new = (run : Run) → view.after old run → view.after new ((event, reply) ∷ run)

-- the queue has the setup's limits, and this run may be what happened at it
pub record HoldsRun {D : Type 0} (view : SoloView D) (setup : Setup) (queue : D) (run : Run) : Type 0 where
  pub after : view.after queue run
  pub limits : view.limits queue ≡ limits_of 2 default_quota setup.capacity

-- a queue of these limits shows this run
pub record IsShown {D : Type 0} (view : SoloView D) (limits : Limits) (run : Run) : Type 0 where
  pub queue : D
  pub after : view.after queue run
  pub limits_are : view.limits queue ≡ limits

-- what is left of the queue after its end shows whatever run the queue did, with the ends
pub record IsEnded {D E : Type 0} (view : SoloView D) (ended : SoloView E) (queue : D) : Type 0 where
  pub rest : E
  pub after : (run : Run) → view.after queue run → ended.after rest (with_ends run)
  pub limits_are : ended.limits rest ≡ view.limits queue

-- ---- a player

-- what stays the same while a script is played: its setup, and the output before it
pub record Setting : Type 0 where
  pub setup : Setup
  pub base : SinkState

abbrev pub setting : Setup → SinkState → Setting
setting setup base = record { setup = setup; base = base }

-- the applier shows this gateway's records
pub record ShowsRecords (setup : Setup) (applier : ApplierView) (g : ReplayState) : Type 0 where
  pub table : applier.table ≡ setup.table
  pub opening : applier.opening ≡ setup.moment
  pub limit : applier.limit ≡ setup.limit
  pub records : applier.records ≡ g.records

-- the player has come to this state of the gateway, and its output to this
pub record Shows {D : Type 0} (view : SoloView D) (s : Setting) (player : Player D) (output : SinkState)
    (g : ReplayState) : Type 0 where
  pub holds : HoldsRun view s.setup player.queue g.run
  pub applier : ShowsRecords s.setup player.applier g
  pub moment : player.applier.moment ≡ g.moment
  pub clock : player.clock ≡ g.clock
  pub age : player.age ≡ s.setup.age
  pub queued : player.queued ≡ number_queued g.run
  pub printed : Writes s.base output g.printed
  pub running : g.full ≡ false

-- the gateway has come to this state, as some queue, this applier and the output show
pub record Stays {D : Type 0} (view : SoloView D) (s : Setting) (applier : ApplierView) (output : SinkState)
    (g : ReplayState) : Type 0 where
  pub stood : IsShown view (limits_of 2 default_quota s.setup.capacity) g.run
  pub shown : ShowsRecords s.setup applier g
  pub printed : Writes s.base output g.printed
  pub room : g.full ≡ true → length g.records < s.setup.limit

-- a player that has done nothing yet
pub record IsNew {D : Type 0} (view : SoloView D) (setup : Setup) (player : Player D) : Type 0 where
  pub holds : HoldsRun view setup player.queue []
  pub applier : player.applier ≡ opened setup.table setup.moment setup.limit
  pub clock : player.clock ≡ setup.moment
  pub age : player.age ≡ setup.age
  pub queued : player.queued ≡ 0

-- a player found the log full, and ended its queue
pub record FindsFull {D E : Type 0} (view : SoloView D) (ended : SoloView E) (player : Player D) (kept : ApplierView)
    : Type 0 where
  pub applier : kept ≡ player.applier
  pub full : length player.applier.records ≡ player.applier.limit
  pub is_ended : IsEnded view ended player.queue

-- a player took an item and recorded it
pub record TakesItem {D : Type 0} (view : SoloView D) (was now : Player D) (item : Numbered) : Type 0 where
  pub taken : Extends view was.queue Take (Taken item) now.queue
  pub records : now.applier.records
      ≡ was.applier.records ++ record { moment = later was.applier.moment was.clock; item = item } ∷ []
  pub moment : now.applier.moment ≡ later was.applier.moment was.clock

-- a player took nothing
pub record TakesNothing {D : Type 0} (view : SoloView D) (was now : Player D) : Type 0 where
  pub taken : Extends view was.queue Take Empty now.queue
  pub records : now.applier.records ≡ was.applier.records
  pub moment : now.applier.moment ≡ was.applier.moment

-- a player took an item and recorded it, or nothing where the last is false
pub record Takes {D : Type 0} (view : SoloView D) (was now : Player D) (found : Bool) : Type 0 where
  pub room : length was.applier.records ≢ was.applier.limit
  pub limits : view.limits now.queue ≡ view.limits was.queue
  pub table : now.applier.table ≡ was.applier.table
  pub opening : now.applier.opening ≡ was.applier.opening
  pub limit : now.applier.limit ≡ was.applier.limit
  pub clock : now.clock ≡ was.clock
  pub age : now.age ≡ was.age
  pub queued : now.queued ≡ was.queued
  pub turn : MatchBool found ((item : Numbered) × TakesItem view was now item) (TakesNothing view was now)

-- the player has come to some state of the gateway
pub record IsUnderWay {D : Type 0} (view : SoloView D) (player : Player D) (output : SinkState) : Type 0 where
  pub setting : Setting
  pub replayed : ReplayState
  pub shows : Shows view setting player output replayed

-- the player may play a step
pub record IsReady {D : Type 0} (view : SoloView D) (player : Player D) (output : SinkState) : Type 0 where
  pub under_way : IsUnderWay view player output
  pub few : player.queued < 2 ^ 34

-- the log was full with an item left, and the queue has ended
pub record Ends {E : Type 0} (ended : SoloView E) (s : Setting) (applier : ApplierView) (output : SinkState)
    (g : ReplayState) : Type 0 where
  pub kept : IsShown ended (limits_of 2 default_quota s.setup.capacity) (with_ends g.run)
  pub shown : ShowsRecords s.setup applier g
  pub printed : Writes s.base output g.printed
  pub full : g.full ≡ true

-- ---- what was done

-- a drain from this state, whose takes are so, led to a state that is so
pub record DrainsTo (AreWhole : ℕ → List (Option Numbered) → ReplayState → Type 0) (IsEnd : ReplayState → Type 0)
    (limit : ℕ) (g : ReplayState) : Type 0 where
  pub takes : List (Option Numbered)
  pub whole : AreWhole limit takes g
  pub ends : IsEnd (drains takes g)

-- a step from this state, whose drain is so, led to a state that is so
pub record PlaysTo (AreWhole : Setup → Step → Heard → ReplayState → Type 0) (IsEnd : ReplayState → Type 0)
    (setup : Setup) (step : Step) (g : ReplayState) : Type 0 where
  pub heard : Heard
  pub whole : AreWhole setup step heard g
  pub ends : IsEnd (plays setup step heard g)

-- the steps, whose drains are so, led to a state that is so
pub record PlayedTo (AreWhole : Setup → List (Step × Heard) → Type 0) (IsEnd : ReplayState → Type 0) (setup : Setup)
    (steps : List Step) : Type 0 where
  pub done : List (Step × Heard)
  pub steps_are : steps_of done ≡ reverse steps
  pub whole : AreWhole setup done
  pub ends : IsEnd (state_after setup done)

-- the first steps were played, and then memory ran out
pub record PlayedPart {D : Type 0} (view : SoloView D) (s : Setting) (steps : List Step) (applier : ApplierView)
    (output : SinkState) : Type 0 where
  pub front : List Step
  pub front_begins : IsPrefix front steps
  pub played : PlayedTo IsWholeSoFar (Stays view s applier output) s.setup front

-- ---- ends

-- a call failed, and no other
abbrev pub IsWriteEnd : SinkState → SinkState → ReplayFault → Type 0
IsWriteEnd before after (OfRun run.OutOfMemory) = FailsOnce before after
IsWriteEnd before after (OfRun run.WriteFault) = FailsOnce before after
IsWriteEnd before after _ = ⊥

-- a player stopped: with a full log, where the first fact holds of the applier; out of memory, where the
-- second does; or at a write, where the third holds of the fault
abbrev pub StopsBy : (ApplierView → Type 0) → (ApplierView → Type 0) → (ReplayFault → Type 0) → Stopped → Type 0
StopsBy P Q R (stopped.Full applier) = P applier
StopsBy P Q R (stopped.OutOfMemory applier) = Q applier
StopsBy P Q R (stopped.Unwritten fault) = R fault

-- the player stopped before it printed, and no item found the log full: memory ran out, where the applier has the
-- records that it had, or a write failed
abbrev pub StopsBefore : ApplierView → SinkState → SinkState → Stopped → Type 0
StopsBefore applier before after = StopsBy (λ _. ⊥)
    (λ kept. (kept ≡ record applier { moment = kept.moment; room = kept.room }) × (after ≡ before))
    (IsWriteEnd before after)

-- the player, from whatever state of the gateway it had come to, played the step
abbrev pub PlaysFrom : {D : Type 0} → SoloView D → Player D → SinkState → Step → Player D → SinkState → Type 0
PlaysFrom view was before step now after =
    (s : Setting) (g : ReplayState) → Shows view s was before g
    → PlaysTo IsWholeStep (Shows view s now after) s.setup step g

-- the player stopped at the step: an item found the log full; memory ran out before or amid it; or a write failed
abbrev pub StopsPlaying : {D E : Type 0} → SoloView D → SoloView E → Player D → SinkState → Step → SinkState
    → Stopped → Type 0
StopsPlaying view ended was before step after = StopsBy
    (λ kept. (s : Setting) (g : ReplayState) → Shows view s was before g
    → PlaysTo IsWholeStep (Ends ended s kept after) s.setup step g)
    (λ kept. (s : Setting) (g : ReplayState) → Shows view s was before g
    → Stays view s kept after g ⊎ PlaysTo IsBegunStep (Stays view s kept after) s.setup step g)
    (IsWriteEnd before after)

-- the player, which was new, played the steps
abbrev pub PlaysAll : {D : Type 0} → SoloView D → Player D → SinkState → List Step → Player D → SinkState → Type 0
PlaysAll view was before steps now after =
    (setup : Setup) → IsNew view setup was
    → PlayedTo IsWhole (Shows view (setting setup before) now after) setup steps

-- the player, which was new, stopped at one of the steps
abbrev pub StopsAll : {D E : Type 0} → SoloView D → SoloView E → Player D → SinkState → List Step → SinkState
    → Stopped → Type 0
StopsAll view ended was before steps after = StopsBy
    (λ kept. (setup : Setup) → IsNew view setup was
    → PlayedTo IsWhole (Ends ended (setting setup before) kept after) setup steps)
    (λ kept. (setup : Setup) → IsNew view setup was → PlayedPart view (setting setup before) steps kept after)
    (IsWriteEnd before after)

-- an applier had no room for a record: its log is full, or memory ran out while it is not
abbrev pub StopsPreparing : ApplierView → Stopped → Type 0
StopsPreparing applier = StopsBy
    (λ kept. (kept ≡ applier) × (length applier.records ≡ applier.limit))
    (λ kept. (kept ≡ applier) × (length applier.records ≢ applier.limit))
    (λ _. ⊥)

-- the player found the log full, and ended its queue; or memory ran out while the log is not full
abbrev pub StopsTaking : {D E : Type 0} → SoloView D → SoloView E → Player D → Stopped → Type 0
StopsTaking view ended player = StopsBy (FindsFull view ended player)
    (λ kept. (kept ≡ player.applier) × (length player.applier.records ≢ player.applier.limit))
    (λ _. ⊥)

-- the player, from whatever state of the gateway it had come to, recorded what was queued
abbrev pub DrainsFrom : {D : Type 0} → SoloView D → Player D → Player D → Type 0
DrainsFrom view was now =
    (s : Setting) (output : SinkState) (g : ReplayState) → Shows view s was output g
    → DrainsTo Finishes (Shows view s now output) s.setup.limit g

-- the drain stopped: the log was full with an item left, or memory ran out amid it
abbrev pub StopsDraining : {D E : Type 0} → SoloView D → SoloView E → Player D → Stopped → Type 0
StopsDraining view ended was = StopsBy
    (λ kept. (s : Setting) (output : SinkState) (g : ReplayState) → Shows view s was output g
    → DrainsTo Finishes (Ends ended s kept output) s.setup.limit g)
    (λ kept. (s : Setting) (output : SinkState) (g : ReplayState) → Shows view s was output g
    → DrainsTo BeginsDrain (Stays view s kept output) s.setup.limit g)
    (λ _. ⊥)

-- a script was played, to a full log or to its end, and what it prints was delivered
pub record IsPrinted (rules : Limits → Run → Type 0) (script : Script) (before after : SinkState) (full : Bool)
    : Type 0 where
  pub replayed : ReplayState
  pub played : IsPlayed rules script replayed
  pub full_is : replayed.full ≡ full
  pub printed : Delivers before after (printed_by script replayed)

-- the first steps of a script were played, the log wasn't full with an item left, and what they print was delivered
pub record IsPrintedSoFar (rules : Limits → Run → Type 0) (script : Script) (before after : SinkState) : Type 0 where
  pub replayed : ReplayState
  pub played : IsPlayedSoFar rules script replayed
  pub room : HasRoomLeft script replayed
  pub printed : Delivers before after (printed_by script replayed)

-- a script was played to its end, or to this fault. The second rules are those of a queue before its end
abbrev pub EndsPlaying : (rules so_far : Limits → Run → Type 0) → Script → SinkState → SinkState → Option ReplayFault
    → Type 0
EndsPlaying rules so_far script before after None = IsPrinted rules script before after false
EndsPlaying rules so_far script before after (Some (OfRun run.LogFull)) = IsPrinted rules script before after true
EndsPlaying rules so_far script before after (Some (OfRun run.OutOfMemory)) =
    (after ≡ before) ⊎ FailsOnce before after ⊎ IsPrintedSoFar so_far script before after
EndsPlaying rules so_far script before after (Some (OfRun run.WriteFault)) = FailsOnce before after
EndsPlaying rules so_far script before after (Some _) = ⊥

-- why an input wasn't read: it is too long, memory ran out, or a read failed
abbrev pub IsInputFault : Option (List ℕ) → ReplayFault → Type 0
IsInputFault input TooLong = IsTooLong input
IsInputFault input (OfRun run.OutOfMemory) = Unit {0}
IsInputFault input (OfRun run.ReadFault) = Unit {0}
IsInputFault input _ = ⊥
