-- Legal runs: the one reply that each event gets, by what was answered before it. Own rules.
-- A run lists events with their replies, the newest first: what stands after a pair in the list came before it.
use Rattle.std.specs.Prelude.{◌≡◌, ℕ, ◌+◌, ◌-◌, ◌==◌, nat_le, if◌then◌else◌, List, [], ◌∷◌, ◌++◌, length, drop, find, slice_get, Option, Some, None, unwrap_or, Bool, true, false, not, ◌&&◌}
use Rattle.std.specs.List.{list_any}
use Rattle.gate_model.specs.declared.record.Moment.{Moment}
use Rattle.gate_model.specs.declared.submission.Body.{Body}
use Rattle.gate_model.specs.declared.submission.Numbered.{Numbered}
use Rattle.gate_core.specs.declared.event.Event.{Event}
use Rattle.gate_core.specs.declared.event.Event.TheVariants.{Look, Push, Take, Close, End, TakeIn}
use Rattle.gate_core.specs.declared.event.Reply.{Reply}
use Rattle.gate_core.specs.declared.event.Reply.TheVariants.{Open, Closing, Ignored, Spent, Full, Queued, Taken, Empty, Begun, AlreadyClosing, Ended, Joined}
use Rattle.gate_core.specs.Limits.{Limits}
use Rattle.gate_core.specs.Merge.{numbered, of_client}

-- events with their replies, the newest first
abbrev pub Run : Type 0
Run = List (Event × Reply)

-- ---- what was queued and taken

-- the items of all pushes answered Queued, in order
abbrev pub all_queued : Run → List Numbered
all_queued [] = []
all_queued ((Push client body, Queued number) ∷ run) = all_queued run ++ numbered client number body ∷ []
all_queued (_ ∷ run) = all_queued run

-- the items that this client was answered are queued, in order
abbrev pub queued : ℕ → Run → List Numbered
queued client run = of_client client (all_queued run)

-- the items that were taken, in order
abbrev pub taken : Run → List Numbered
taken [] = []
taken ((Take, Taken item) ∷ run) = taken run ++ item ∷ []
taken (_ ∷ run) = taken run

-- the items that were queued after those taken
abbrev pub waiting : Run → List Numbered
waiting run = drop (length (taken run)) (all_queued run)

-- ---- what was closed and ended

-- the moment of the first close
abbrev pub first_close : Run → Option Moment
first_close [] = None
first_close ((Close moment, reply) ∷ run) = Some (unwrap_or (first_close run) moment)
first_close (_ ∷ run) = first_close run

-- the client's end was answered Ended
abbrev pub is_end_of : ℕ → Event × Reply → Bool
is_end_of client (End ending, Ended) = ending == client
is_end_of client _ = false

-- the client has ended
abbrev pub has_ended : ℕ → Run → Bool
has_ended client run = list_any (is_end_of client) run

-- the client's taking in was answered Joined
abbrev pub is_joining_of : ℕ → Event × Reply → Bool
is_joining_of client (TakeIn joining, Joined) = joining == client
is_joining_of client _ = false

-- the client was taken in
abbrev pub has_joined : ℕ → Run → Bool
has_joined client run = list_any (is_joining_of client) run

-- ---- what a client may do

-- the client is one of those of the World, and hasn't ended
abbrev pub is_open : Limits → ℕ → Run → Bool
is_open limits client run = nat_le 1 client && nat_le client limits.clients && not (has_ended client run)

-- the event is the client's own
abbrev pub is_own : ℕ → Event → Bool
is_own client (Look looking) = looking == client
is_own client (Push pushing body) = pushing == client
is_own client (End ending) = ending == client
is_own client _ = false

-- the client's last own event, with its reply
abbrev pub last_own : ℕ → Run → Option (Event × Reply)
last_own client run = find (λ pair. is_own client pair.0) run

-- it is a look answered Open
abbrev pub is_open_look : Option (Event × Reply) → Bool
is_open_look (Some (Look client, Open)) = true
is_open_look _ = false

-- the client's last own event is a look answered Open
abbrev pub has_looked : ℕ → Run → Bool
has_looked client run = is_open_look (last_own client run)

-- ---- the replies

-- the reply to a look of an open client, by the first close
abbrev pub look_reply : Option Moment → Reply
look_reply None = Open
look_reply (Some first) = Closing first

-- the reply to a push of an open client that has looked
abbrev pub push_reply : Limits → ℕ → Body → Run → Reply
push_reply limits client body run =
    if length (queued client run) == limits.quota then Spent body
    else (if length (all_queued run) - length (taken run) == limits.capacity then Full body
    else Queued (length (queued client run) + 1))

-- the reply to a take, by the oldest item that waits
abbrev pub take_reply : Option Numbered → Reply
take_reply None = Empty
take_reply (Some item) = Taken item

-- the reply to a close, by the first close
abbrev pub close_reply : Option Moment → Reply
close_reply None = Begun
close_reply (Some first) = AlreadyClosing first

-- the reply to an event after a run
abbrev pub reply_after : Limits → Run → Event → Reply
reply_after limits run (Look client) = if is_open limits client run then look_reply (first_close run) else Ignored None
reply_after limits run (Push client body) =
    if is_open limits client run && has_looked client run then push_reply limits client body run
    else Ignored (Some body)
reply_after limits run Take = take_reply (slice_get (all_queued run) (length (taken run)))
reply_after limits run (Close moment) = close_reply (first_close run)
reply_after limits run (End client) = if is_open limits client run then Ended else Ignored None
reply_after limits run (TakeIn client) =
    if has_ended client run && not (has_joined client run) then Joined else Ignored None

-- each reply of the run is the one that the run before it decides
abbrev pub IsLegal : Limits → Run → Type 0
IsLegal limits [] = Unit {0}
IsLegal limits ((event, reply) ∷ run) = (reply ≡ reply_after limits run event) × IsLegal limits run
