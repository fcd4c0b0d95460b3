-- Runs that a queue may show to one thread that does all its work: what a gate's contracts give of each reply, whatever
-- other threads do. Own rules. Each legal run is one of them. A gate allows more: Full although there is room, Empty
-- although items wait, a close that isn't in the run, and items of two clients in any order.
use Rattle.std.specs.Prelude.{◌≡◌, ℕ, ◌+◌, ◌-◌, ◌*◌, ◌<◌, ◌≤◌, ◌&&◌, Bool, true, false, [], ◌∷◌, length, Option, Some, None, IfSome}
use mathlib.Core.List.{IsPrefix}
use Rattle.gate_model.specs.declared.record.Moment.{Moment}
use Rattle.gate_model.specs.declared.submission.Body.{Body}
use Rattle.gate_core.specs.declared.event.Event.{Event}
use Rattle.gate_core.specs.declared.event.Event.TheVariants.{Look, Push, Take, Close}
use Rattle.gate_core.specs.declared.event.Reply.{Reply}
use Rattle.gate_core.specs.declared.event.Reply.TheVariants.{Open, Closing, Ignored, Spent, Full, Queued, Taken, Empty, Begun, AlreadyClosing}
use Rattle.gate_core.specs.Limits.{Limits}
use Rattle.gate_core.specs.Merge.{IsClient, of_client}
use Rattle.gate_core.specs.Legal.{Run, queued, taken, has_joined, is_open, has_looked, reply_after}

-- ---- the close

-- the moment of the first close, once a reply shows it
abbrev pub shown_close : Run → Option Moment
shown_close [] = None
shown_close ((Look client, Closing first) ∷ run) = Some first
shown_close ((Close moment, Begun) ∷ run) = Some moment
shown_close ((Close moment, AlreadyClosing first) ∷ run) = Some first
shown_close (_ ∷ run) = shown_close run

-- a look, by whether its client is open and by the close that was shown: a close that was shown is found again, and one
-- that wasn't may be found
abbrev pub AllowsLook : Bool → Option Moment → Reply → Type 0
AllowsLook active shown Open = (active ≡ true) × (shown ≡ None)
AllowsLook active shown (Closing first) = (active ≡ true) × IfSome shown (λ known. known ≡ first)
AllowsLook active shown reply = (active ≡ false) × (reply ≡ Ignored None)

-- a close, by the close that was shown: after it none is the first, and without it another may have been
abbrev pub AllowsClose : Option Moment → Reply → Type 0
AllowsClose shown Begun = shown ≡ None
AllowsClose shown (AlreadyClosing first) = IfSome shown (λ known. known ≡ first)
AllowsClose shown reply = ⊥

-- ---- items

-- the client may push: it is open, and its last own event is a look answered Open
abbrev pub MayPush : Limits → Run → ℕ → Type 0
MayPush limits run client = (is_open limits client run && has_looked client run) ≡ true

-- a push: Queued has the client's next number, and comes only within its quota; Spent comes only at the quota, and Full
-- only within it, where the client's items and the others' quotas can fill the queue
abbrev pub AllowsPush : Limits → Run → ℕ → Body → Reply → Type 0
AllowsPush limits run client body (Queued number) =
    MayPush limits run client × (length (queued client run) < limits.quota) × (number ≡ length (queued client run) + 1)
AllowsPush limits run client body (Spent returned) =
    MayPush limits run client × (returned ≡ body) × (length (queued client run) ≡ limits.quota)
AllowsPush limits run client body (Full returned) =
    MayPush limits run client × (returned ≡ body) × (length (queued client run) < limits.quota)
    × (limits.capacity ≤ length (queued client run) + (limits.clients - 1) * limits.quota)
AllowsPush limits run client body reply = reply ≡ reply_after limits run (Push client body)

-- a take: the item is the next of its client, and Empty comes only where all items were taken of each client that was
-- taken in
abbrev pub AllowsTake : Limits → Run → Reply → Type 0
AllowsTake limits run (Taken item) =
    IsClient limits.clients item.client × (item.number ≡ length (of_client item.client (taken run)) + 1)
AllowsTake limits run Empty =
    (client : ℕ) → has_joined client run ≡ true → of_client client (taken run) ≡ queued client run
AllowsTake limits run reply = ⊥

-- of each client that was taken in, what was taken is a prefix of what was queued
abbrev pub BeginsEach : Run → Type 0
BeginsEach run = (client : ℕ) → has_joined client run ≡ true
    → IsPrefix (of_client client (taken run)) (queued client run)

-- ---- runs

-- the reply may come to the event after a run; ends and takings in are answered as in a legal run
abbrev pub Allows : Limits → Run → Event → Reply → Type 0
Allows limits run (Look client) reply = AllowsLook (is_open limits client run) (shown_close run) reply
Allows limits run (Push client body) reply = AllowsPush limits run client body reply
Allows limits run Take reply = AllowsTake limits run reply
Allows limits run (Close moment) reply = AllowsClose (shown_close run) reply
Allows limits run event reply = reply ≡ reply_after limits run event

-- each reply of the run may come after the run before it
abbrev pub IsAllowed : Limits → Run → Type 0
IsAllowed limits [] = Unit {0}
IsAllowed limits ((event, reply) ∷ run) =
    Allows limits run event reply × BeginsEach ((event, reply) ∷ run) × IsAllowed limits run
