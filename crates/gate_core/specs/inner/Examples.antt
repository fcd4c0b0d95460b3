-- Worked examples of legal runs. They hold by computation, and nothing uses them.
use Rattle.std.specs.Prelude.{◌≡◌, ℕ, List, [], ◌∷◌, ◌++◌, take, drop, reverse, map, count_by, Some, None, Bool, true, false, refl}
use Rattle.gate_model.specs.declared.record.Moment.{Moment}
use Rattle.gate_model.specs.declared.submission.Body.{Body}
use Rattle.gate_core.specs.declared.event.Event.{Event}
use Rattle.gate_core.specs.declared.event.Event.TheVariants.{Look, Push, Take, Close, End, TakeIn}
use Rattle.gate_core.specs.declared.event.Reply.{Reply}
use Rattle.gate_core.specs.declared.event.Reply.TheVariants.{Open, Closing, Ignored, Spent, Full, Queued, Taken, Empty, Begun, AlreadyClosing, Ended, Joined}
use Rattle.gate_core.specs.Limits.{Limits, limits_of, default_quota}
use Rattle.gate_core.specs.Merge.{numbered}
use Rattle.gate_core.specs.Legal.{Run, reply_after, IsLegal}

-- the run that goes on with these events, each with the reply that the run before it decides
abbrev played : Limits → Run → List Event → Run
played limits run [] = run
played limits run (event ∷ events) = played limits ((event, reply_after limits run event) ∷ run) events

-- it is legal
played_is_legal : (limits : Limits) (run : Run) (events : List Event) → IsLegal limits run
    → IsLegal limits (played limits run events)
played_is_legal limits run [] h = h
played_is_legal limits run (event ∷ events) h =
    played_is_legal limits ((event, reply_after limits run event) ∷ run) events (refl, h)

-- the replies to these events where nothing came before, in the order of the events
abbrev replies_to : Limits → List Event → List Reply
replies_to limits events = map (λ (pair : Event × Reply). pair.1) (reverse (played limits [] events))

-- the moment of so many seconds
abbrev moment : ℕ → Moment
moment seconds = record { 0 = seconds }

-- a queue of one item is full until it is taken
full_until_it_is_taken : (a b : Body) →
    replies_to (limits_of 2 default_quota 1)
    (Look 1 ∷ Push 1 a ∷ Look 2 ∷ Push 2 b ∷ Take ∷ Look 2 ∷ Push 2 b ∷ Take ∷ Take ∷ [])
    ≡ Open ∷ Queued 1 ∷ Open ∷ Full b ∷ Taken (numbered 1 1 a) ∷ Open ∷ Queued 1 ∷ Taken (numbered 2 1 b) ∷ Empty ∷ []
full_until_it_is_taken a b = refl

-- a quota of one item is spent by the first
spent_by_the_first : (a b : Body) →
    replies_to (limits_of 1 1 1) (Look 1 ∷ Push 1 a ∷ Look 1 ∷ Push 1 b ∷ []) ≡ Open ∷ Queued 1 ∷ Open ∷ Spent b ∷ []
spent_by_the_first a b = refl

-- a client that looked before the close may push once after it, and is then taken in
one_push_after_the_close : (a b : Body) →
    replies_to (limits_of 1 default_quota 4)
    (Look 1 ∷ Close (moment 1500) ∷ Push 1 a ∷ Look 1 ∷ Push 1 b ∷ Take ∷ Take ∷ End 1 ∷ TakeIn 1 ∷ Look 1
    ∷ Close (moment 1600) ∷ [])
    ≡ Open ∷ Begun ∷ Queued 1 ∷ Closing (moment 1500) ∷ Ignored (Some b) ∷ Taken (numbered 1 1 a) ∷ Empty ∷ Ended
    ∷ Joined ∷ Ignored None ∷ AlreadyClosing (moment 1500) ∷ []
one_push_after_the_close a b = refl

-- ---- a close among the events of two clients

-- it is an answer Queued
abbrev is_queued : Reply → Bool
is_queued (Queued number) = true
is_queued _ = false

-- two clients look and push, with takes between
abbrev two_clients : Body → Body → Body → List Event
two_clients a b c = Look 1 ∷ Push 1 a ∷ Look 2 ∷ Push 2 b ∷ Take ∷ Look 1 ∷ Push 1 c ∷ Take ∷ []

-- how many pushes are queued where a close comes after this many of the events
abbrev queued_with_close_after : List Event → ℕ → ℕ
queued_with_close_after events count =
    count_by is_queued
    (replies_to (limits_of 2 default_quota 4) (take count events ++ Close (moment 1500) ∷ drop count events))

-- only those are queued whose client looked before the close
queued_by_the_close : (a b c : Body) →
    map (queued_with_close_after (two_clients a b c)) (0 ∷ 1 ∷ 2 ∷ 3 ∷ 4 ∷ 5 ∷ 6 ∷ 7 ∷ 8 ∷ [])
    ≡ 0 ∷ 1 ∷ 1 ∷ 2 ∷ 2 ∷ 2 ∷ 3 ∷ 3 ∷ 3 ∷ []
queued_by_the_close a b c = refl
