-- Which replies there are to each event, whatever came before it. Own rules.
use Rattle.std.specs.Prelude.{◌≡◌, List, All, zip, Some, None}
use Rattle.gate_core.specs.declared.event.Event.{Event}
use Rattle.gate_core.specs.declared.event.Event.TheVariants.{Look, Push, Take, Close, End, TakeIn}
use Rattle.gate_core.specs.declared.event.Reply.{Reply}
use Rattle.gate_core.specs.declared.event.Reply.TheVariants.{Open, Closing, Ignored, Spent, Full, Queued, Taken, Empty, Begun, AlreadyClosing, Ended, Joined}

-- the reply is one of those to the event, and the body that it returns is the one that was pushed
abbrev pub FitsEvent : Event → Reply → Type 0
FitsEvent (Look client) Open = Unit {0}
FitsEvent (Look client) (Closing first) = Unit {0}
FitsEvent (Look client) (Ignored None) = Unit {0}
FitsEvent (Push client body) (Queued number) = Unit {0}
FitsEvent (Push client body) (Spent returned) = returned ≡ body
FitsEvent (Push client body) (Full returned) = returned ≡ body
FitsEvent (Push client body) (Ignored (Some returned)) = returned ≡ body
FitsEvent Take (Taken item) = Unit {0}
FitsEvent Take Empty = Unit {0}
FitsEvent (Close moment) Begun = Unit {0}
FitsEvent (Close moment) (AlreadyClosing first) = Unit {0}
FitsEvent (End client) Ended = Unit {0}
FitsEvent (End client) (Ignored None) = Unit {0}
FitsEvent (TakeIn client) Joined = Unit {0}
FitsEvent (TakeIn client) (Ignored None) = Unit {0}
FitsEvent event reply = ⊥

-- each reply is one of those to the event at its index
abbrev pub FitEvents : List Event → List Reply → Type 0
FitEvents events replies = All (λ pair. FitsEvent pair.0 pair.1) (zip events replies)
